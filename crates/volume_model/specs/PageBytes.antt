-- The order of a node's records, and a page byte by byte.
use Rattle.std.specs.Prelude.{◌≡◌, ℕ, ◌+◌, ◌-◌, ◌<◌, ◌≤◌, true, ◌⊎◌, List, [], ◌∷◌, length, slice_index}
use Rattle.volume_model.specs.Lists.{IsIn}
use Rattle.volume_model.specs.Redo.{Redo, spelling, numbers_before}
use Rattle.volume_model.specs.Node.{page_of}
use Rattle.volume_model.specs.Plan.{Plan, IsCertified}
use Rattle.volume_model.specs.World.{Event, run, opening}

-- each record comes before all later ones, by LSN and then in order of bytes, so that there are no duplicates
abbrev pub ComeInOrder : List Redo → Type 0
ComeInOrder [] = Unit {0}
ComeInOrder (r ∷ rest) = ((s : Redo) → IsIn s rest → numbers_before (spelling r) (spelling s) ≡ true) × ComeInOrder rest

-- for every list of events, from the opening world of a certified plan: each node's records are in order
abbrev pub NodesRecordsInOrder : Type 0
NodesRecordsInOrder = (plan : Plan) → IsCertified plan → (events : List Event) (group member : ℕ) → ComeInOrder
    ((run plan (opening plan) events).nodes group member).contents.records

-- each record's bytes lie within the 512 bytes of its block
abbrev pub LieWithin : List Redo → Type 0
LieWithin records = (r : Redo) → IsIn r records → r.offset + length r.bytes ≤ 512

-- the record writes byte k of the block, and its LSN is at most the point
pub record Writes (block point k : ℕ) (r : Redo) : Type 0 where
  pub on_block : r.block ≡ block
  pub within : r.lsn ≤ point
  pub first : r.offset ≤ k
  pub last : k < r.offset + length r.bytes

-- the record is the last one that writes byte k: all others that do come before it
pub record IsLastToWrite (records : List Redo) (block point k : ℕ) (r : Redo) : Type 0 where
  pub there : IsIn r records
  pub writes : Writes block point k r
  pub others_before : (s : Redo) → IsIn s records → Writes block point k s → (s ≡ r)
      ⊎ (numbers_before (spelling s) (spelling r) ≡ true)

-- none of the records writes byte k
abbrev pub NoneWrites : List Redo → ℕ → ℕ → ℕ → Type 0
NoneWrites records block point k = (r : Redo) → IsIn r records → Writes block point k r → ⊥

-- byte k is the one that the last record to write it wrote, or 0 if none did
abbrev pub IsByteOfLast : List Redo → ℕ → ℕ → ℕ → ℕ → Type 0
IsByteOfLast records block point k byte =
    ((r : Redo) × IsLastToWrite records block point k r × (byte ≡ slice_index r.bytes (k - r.offset)))
    ⊎ (NoneWrites records block point k × (byte ≡ 0))

-- a page has 512 bytes, and each is that of the last record that writes it
pub record PagesByteByByte : Type 0 where
  pub size : (records : List Redo) (block point : ℕ) → LieWithin records → length (page_of records block point) ≡ 512
  pub bytes : (records : List Redo) (block point k : ℕ) → ComeInOrder records → LieWithin records → k < 512
      → IsByteOfLast records block point k (slice_index (page_of records block point) k)
