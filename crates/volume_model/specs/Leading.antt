-- The cut and the log found, stated with the records.
use Rattle.std.specs.Prelude.{◌≡◌, ℕ, ◌<◌, true, ◌⊎◌, List, [], ◌∷◌, Some}
use Rattle.volume_model.specs.Lists.{IsIn}
use Rattle.volume_model.specs.Redo.{Redo, spelling, numbers_before, record_at, cut_of, log_found}
use Rattle.volume_model.specs.Greatest.{IsGreatest}

-- the record has the number, and comes first in order of bytes among those that have it
pub record IsFirstAt (records : List Redo) (n : ℕ) (r : Redo) : Type 0 where
  pub there : IsIn r records
  pub number : r.lsn ≡ n
  pub first : (s : Redo) → IsIn s records → s.lsn ≡ n → (s ≡ r) ⊎ (numbers_before (spelling r) (spelling s) ≡ true)

-- record_at gives the first of the records with a number, if there is any
pub record RecordAtIsFirst : Type 0 where
  pub is_first : (records : List Redo) (n : ℕ) (r : Redo) → record_at records n ≡ Some r → IsFirstAt records n r
  pub is_there : (records : List Redo) (s : Redo) → IsIn s records → (r : Redo) × (record_at records s.lsn ≡ Some r)

-- A number leads down to 0 if it is 0, or if the prev_volume of its first record leads down to 0.
pub data LeadsDown (records : List Redo) : ℕ → Type 0 where
  at_zero : (n : ℕ) → n ≡ 0 → LeadsDown records n
  by_record : (n : ℕ) (r : Redo) → record_at records n ≡ Some r → LeadsDown records r.prev_volume → LeadsDown records n

-- the first record with the number is a consistency point, and the number leads down to 0
abbrev pub IsFoundPoint : List Redo → ℕ → Type 0
IsFoundPoint records n = (r : Redo) × (record_at records n ≡ Some r) × (r.point ≡ true) × LeadsDown records n

-- each record's prev_volume is less than its LSN
abbrev pub VolumeLinksFall : List Redo → Type 0
VolumeLinksFall records = (r : Redo) → IsIn r records → r.prev_volume < r.lsn

-- the cut is the greatest consistency point that leads down to 0, else 0
abbrev pub CutIsGreatest : Type 0
CutIsGreatest = (records : List Redo) → VolumeLinksFall records → IsGreatest (IsFoundPoint records) (cut_of records)

-- the list, newest first, has the first record with number n, the first record with that one's prev_volume, and so on
-- down to 0
abbrev pub AreOnTheWay : List Redo → ℕ → List Redo → Type 0
AreOnTheWay records n [] = n ≡ 0
AreOnTheWay records n (r ∷ older) = (record_at records n ≡ Some r) × (r.lsn ≡ n) × AreOnTheWay records r.prev_volume
    older

-- the log found has the records of this chain from the cut down to 0, and no other
abbrev pub LogFoundLeadsDown : Type 0
LogFoundLeadsDown = (records : List Redo) → VolumeLinksFall records → AreOnTheWay records (cut_of records)
    (log_found records)
