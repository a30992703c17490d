-- Records of one group.
use Rattle.std.specs.Prelude.{◌≡◌, ℕ, Option, Some, List}
use Rattle.volume_model.specs.Common.{IsIn, Redo}

-- each of the records is of the group
abbrev pub AreOf : ℕ → List Redo → Type 0
AreOf group records = (r : Redo) → IsIn r records → r.group ≡ group

-- if a group is kept, each of the records is of it
abbrev pub IsKnownGroup : Option ℕ → List Redo → Type 0
IsKnownGroup known_group records = (group : ℕ) → known_group ≡ Some group → AreOf group records
