-- The nodes of a world in slots: 64 slots for each group, one for each member.
use Rattle.std.specs.Prelude.{◌≡◌, ℕ, ◌+◌, ◌*◌, ◌<◌, ◌≤◌, ◌⊎◌, nat_lt, if◌then◌else◌, List, Option, Some, None, slice_get}
use Rattle.volume_model.specs.Common.{Plan, born_node}
use Rattle.volume_model.specs.Node.{Node}

-- the most members of a group
abbrev pub members : ℕ
members = 64

-- the slot of a member of a group
abbrev pub slot_of : ℕ → ℕ → ℕ
slot_of group member = group * members + member

-- the content of a slot; None if there is no slot
abbrev pub in_slot : {A : Type 0} → Option (Option A) → Option A
in_slot None = None
in_slot (Some o) = o

-- a node, or the newborn one if it is missing
abbrev pub node_or : Node → Option Node → Node
node_or born None = born
node_or born (Some node) = node

-- the node of a member of a group; a newborn one if the plan doesn't name the member
abbrev pub node_at : Plan → List (Option Node) → ℕ → ℕ → Node
node_at plan slots group member =
    if nat_lt member members then node_or (born_node plan group member)
    (in_slot (slice_get slots (slot_of group member))) else born_node plan group member

-- the slot of a member of a group among count slots, or None if there is none
abbrev pub FindsSlot : Option ℕ → ℕ → ℕ → ℕ → Type 0
FindsSlot (Some slot) count group member = (slot ≡ slot_of group member) × (slot < count) × (member < members)
FindsSlot None count group member = (members ≤ member) ⊎ (count ≤ slot_of group member)
