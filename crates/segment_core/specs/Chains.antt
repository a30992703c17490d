-- The complete point of a group's records, and whether they form a line.
use Rattle.std.specs.Prelude.{◌≡◌, ◌==◌, ◌&&◌, ◌⊎◌, ℕ, zero, suc, Bool, true, nat_le, if◌then◌else◌, List, [], ◌∷◌, Option, option_map, slice_get}
use Rattle.std.specs.Borrow.{Bor}
use Rattle.volume_model.specs.Common.{IsIn, Redo, scl}
use Rattle.redo_record.specs.Common.{records_of, runs_of, index_of, shared_redo}
use Rattle.redo_record.specs.declared.record_set.RecordSet.{RecordSet}
use Rattle.redo_record.specs.declared.run_place.RunPlace.{RunPlace}
use Rattle.redo_record.specs.declared.shared_record.SharedRecord.{SharedRecord}
use Rattle.segment_core.specs.declared.chains.Chains.{Chains}

-- no record links to an LSN below that of the record before it in order, nor the first one to an LSN below n
abbrev pub is_line : ℕ → List Redo → Bool
is_line n [] = true
is_line n (r ∷ rest) = nat_le n r.prev_group && is_line r.lsn rest

-- the LSN of the record before an index; n at the beginning
abbrev pub lsn_before : ℕ → List Redo → ℕ → ℕ
lsn_before n records zero = n
lsn_before n [] (suc index) = n
lsn_before n (r ∷ rest) (suc index) = lsn_before r.lsn rest index

-- the last LSN of the longest beginning in which each record links to the one before it, the first one to n; n if it is
-- empty
abbrev pub chain_end : ℕ → List Redo → ℕ
chain_end n [] = n
chain_end n (r ∷ rest) = if r.prev_group == n then chain_end r.lsn rest else n

-- the record links to 0 or to one of these
abbrev pub IsLinkedTo : List Redo → Redo → Type 0
IsLinkedTo records r = (r.prev_group ≡ 0) ⊎ ((s : Redo) × IsIn s records × (s.lsn ≡ r.prev_group))

-- this is the record at a place of a set, if there is one
abbrev pub IsFoundAt : RecordSet → RunPlace → Option (Bor SharedRecord) → Type 0
IsFoundAt set place found = option_map (λ packet. shared_redo packet.now) found ≡ slice_get (records_of set) (index_of (runs_of set) place)

-- The chains are those of these records.
pub record AreChainsOf (records : List Redo) (chains : Chains) : Type 0 where
  pub line : chains.is_line ≡ true → is_line 0 records ≡ true
  pub point : chains.point ≡ scl records
