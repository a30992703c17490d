-- What is known of all records of a list.
use Rattle.std.specs.Prelude.{◌≡◌, ℕ, ◌+◌, ◌<◌, Option, Some, List, length, slice_index_or}
use Rattle.volume_model.specs.Common.{IsIn, Redo}

-- if a volume epoch is kept, each of the records is of it
abbrev pub IsKnownEpoch : Option ℕ → List Redo → Type 0
IsKnownEpoch volume_epoch records = (epoch : ℕ) → volume_epoch ≡ Some epoch → (r : Redo) → IsIn r records → r.volume ≡ epoch

-- each record but the first links to the one before it
abbrev pub AreLinked : (Redo → ℕ) → List Redo → Type 0
AreLinked link records = (i : ℕ) (d : Redo) → i + 1 < length records → link (slice_index_or records (i + 1) d) ≡
    (slice_index_or records i d).lsn

-- each record but the first links to the one before it in the volume
abbrev pub IsVolumeChain : List Redo → Type 0
IsVolumeChain records = AreLinked (λ r. r.prev_volume) records

-- each record but the first links to the one before it in its group
abbrev pub IsGroupChain : List Redo → Type 0
IsGroupChain records = AreLinked (λ r. r.prev_group) records
