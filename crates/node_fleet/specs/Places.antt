-- Lists with a place for each node of a volume.
use Rattle.std.specs.Prelude.{◌≡◌, ℕ, ◌&&◌, nat_lt, List, Option, is_some, slice_get}
use Rattle.volume_model.specs.Common.{Plan, is_named}
use Rattle.world.specs.Slots.{members, slot_of, in_slot}

-- exactly the slots of the nodes that the plan names are in use
abbrev pub HasEach : {A : Type 0} → Plan → List (Option A) → Type 0
HasEach plan slots = (group member : ℕ)
    → (nat_lt member members && is_some (in_slot (slice_get slots (slot_of group member)))) ≡ is_named plan group member
