use Rattle.std.specs.Prelude.{◌≡◌, ℕ, ◌≤◌, true, false, List, length}
use Rattle.std.specs.List.{insert}
use Rattle.volume_model.specs.Common.{Redo, with_record, holds_record}

-- the record is one of these
pub record IsHeldIn (records : List Redo) (r : Redo) : Type 0 where
  pub holds : holds_record r records ≡ true
  pub same : with_record r records ≡ records

-- the record isn't one of these, and its place among them is this one
pub record IsPlaceFor (records : List Redo) (r : Redo) (place : ℕ) : Type 0 where
  pub within : place ≤ length records
  pub new : holds_record r records ≡ false
  pub joins : with_record r records ≡ insert records place r
