-- How many records a log has at most.
use Rattle.std.proofs.Common.{◌≡◌, ℕ, ◌+◌, ◌^◌, ◌≤◌, true, List, [], ◌∷◌, map, length, inl, refl, arith}
use Rattle.std.proofs.lemmas.List.{length-map}
use Rattle.volume_model.specs.Common.{IsIn, added, Redo, last_lsn}
use Rattle.redo_record.specs.declared.shared_record.SharedRecord.{SharedRecord}
use Rattle.redo_record.specs.Common.{shared_redo}
use Rattle.redo_record.proofs.KeptRanges.{shared_redo-ranges}
use Rattle.writer_core.specs.Logs.{log_of, is_growing}
use Rattle.writer_core.proofs.Growing.{both}
use Rattle.writer_core.proofs.Finding.{all-log}

pub length-added : {A : Type 0} (xs kept : List A) → length (added xs kept) ≡ length xs + length kept
length-added [] kept = omega arith
length-added (x ∷ xs) kept = let inner : length (added xs (x ∷ kept)) ≡ length xs + length (x ∷ kept) = length-added xs (x ∷ kept) in omega (arith, inner)

-- a log that grows has no more records than its last number
length-most : (log : List Redo) → is_growing log ≡ true → length log ≤ last_lsn log
length-most [] h = omega arith
length-most (r ∷ older) h =
    let (below, rest) = both (last_lsn older) r.lsn (is_growing older) h in
    omega (arith, (length-most older rest))

last-most : (most : ℕ) (log : List Redo) → ((r : Redo) → IsIn r log → r.lsn ≤ most) → last_lsn log ≤ most
last-most most [] all = omega arith
last-most most (r ∷ older) all = all r (inl refl)

-- the greatest number of a record bounds how many there are
pub packets-few : (packets : List SharedRecord) → is_growing (log_of packets) ≡ true → length packets ≤ 2 ^ 62
packets-few packets grows =
    let log : List Redo = log_of packets in
    let none : List Redo = [] in
    let many : length log ≡ length (map shared_redo packets) + length none = length-added (map shared_redo packets) none in
    let low : last_lsn log ≤ 2 ^ 62 = last-most (2 ^ 62) log (all-log (λ r. r.lsn ≤ 2 ^ 62) packets (λ k d l. (shared_redo-ranges _).lsn_in_range)) in
    omega (arith, many, low, length-most log grows, length-map packets shared_redo)
