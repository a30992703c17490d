-- The parts of a log, stated with its records.
use Rattle.std.specs.Prelude.{◌≡◌, ◌↔◌, ℕ, ◌≤◌, List}
use Rattle.volume_model.specs.Lists.{IsIn}
use Rattle.volume_model.specs.Redo.{Redo, last_lsn, last_of_block, last_of_group, of_group, up_to}
use Rattle.volume_model.specs.ClientWriter.{last_of_group_below}
use Rattle.volume_model.specs.Greatest.{IsGreatest}
use Rattle.volume_model.specs.Points.{NumbersGrow}

-- a record of the list with property P has this number
abbrev pub IsNumberOf : (Redo → Type 0) → List Redo → ℕ → Type 0
IsNumberOf P log n = (r : Redo) × IsIn r log × P r × (r.lsn ≡ n)

-- the record is one of this block of this group
pub record IsOnBlock (group block : ℕ) (r : Redo) : Type 0 where
  pub its_group : r.group ≡ group
  pub its_block : r.block ≡ block

-- the record is of this group, and its LSN is at most the limit
pub record IsOfGroupWithin (group limit : ℕ) (r : Redo) : Type 0 where
  pub its_group : r.group ≡ group
  pub within : r.lsn ≤ limit

-- A log up to a number has exactly the records up to it, and a group's part exactly the group's. The last number of the
-- whole, of a group, on a block, and of a group up to a limit is the greatest there. For a group's part the LSNs of the
-- list need not be in order.
pub record PartsOfLogs : Type 0 where
  pub up_to_number : (log : List Redo) → NumbersGrow log → (n : ℕ) (r : Redo) → IsIn r (up_to n log) ↔
      (IsIn r log × (r.lsn ≤ n))
  pub of_one_group : (log : List Redo) (group : ℕ) (r : Redo) → IsIn r (of_group group log) ↔
      (IsIn r log × (r.group ≡ group))
  pub last : (log : List Redo) → NumbersGrow log → IsGreatest (IsNumberOf (λ r. Unit {0}) log) (last_lsn log)
  pub last_in_group : (log : List Redo) → NumbersGrow log → (group : ℕ) → IsGreatest (IsNumberOf (λ r. r.group ≡ group)
      log) (last_of_group group log)
  pub last_on_block : (log : List Redo) → NumbersGrow log → (group block : ℕ)
      → IsGreatest (IsNumberOf (IsOnBlock group block) log) (last_of_block group block log)
  pub last_within : (log : List Redo) → NumbersGrow log → (group limit : ℕ)
      → IsGreatest (IsNumberOf (IsOfGroupWithin group limit) log) (last_of_group_below group limit log)
