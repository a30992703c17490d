-- A segment's complete point, stated with its records.
use Rattle.std.specs.Prelude.{◌≡◌, ℕ, ◌<◌, List}
use Rattle.volume_model.specs.Lists.{IsIn}
use Rattle.volume_model.specs.Redo.{Redo, scl}
use Rattle.volume_model.specs.Greatest.{IsGreatest}

-- A record is grounded if it is its group's first, or if the record before it in the group is held and grounded.
pub data IsGrounded (records : List Redo) : Redo → Type 0 where
  from_none : (r : Redo) → IsIn r records → r.prev_group ≡ 0 → IsGrounded records r
  from_one : (r before : Redo) → IsIn r records → IsGrounded records before → before.lsn ≡ r.prev_group
      → IsGrounded records r

-- a grounded record has this number
abbrev pub IsGroundedNumber : List Redo → ℕ → Type 0
IsGroundedNumber records n = (r : Redo) × IsGrounded records r × (r.lsn ≡ n)

-- each record's prev_group is less than its LSN
abbrev pub GroupLinksFall : List Redo → Type 0
GroupLinksFall records = (r : Redo) → IsIn r records → r.prev_group < r.lsn

-- the complete point of a set of records is the greatest number of a grounded record, else 0
abbrev pub CompletePointIsGreatest : Type 0
CompletePointIsGreatest = (records : List Redo) → GroupLinksFall records → IsGreatest (IsGroundedNumber records)
    (scl records)
