-- A program's segments: one slot for each member of each group.
use Rattle.std.specs.Prelude.{◌≡◌, ℕ, ◌*◌, ◌/◌, ◌%◌, true, false, List, Option, Some, None, map, option_map, length, slice_get}
use Rattle.volume_model.specs.Common.{Plan, is_named}
use Rattle.volume_model.specs.Node.{Node}
use Rattle.segment_core.specs.declared.segment.Segment.{Segment}
use Rattle.segment_core.specs.Segment.{node_of, IsSegmentOf}
use Rattle.world.specs.Slots.{members}

-- the nodes of segments
abbrev pub nodes_of : List (Option Segment) → List (Option Node)
nodes_of slots = map (option_map node_of) slots

-- the segment of a member of a group, or None if the plan doesn't name the member
abbrev pub IsPlace : Plan → ℕ → ℕ → Option Segment → Type 0
IsPlace plan group member None = is_named plan group member ≡ false
IsPlace plan group member (Some segment) = (is_named plan group member ≡ true) × IsSegmentOf plan group member segment

-- There is a slot for each member of each group, with the member's segment if the plan names the member.
pub record AreHomes (plan : Plan) (slots : List (Option Segment)) : Type 0 where
  pub long : length slots ≡ plan.groups * members
  pub place : (k : ℕ) → (o : Option Segment) → slice_get slots k ≡ Some o → IsPlace plan (k / members) (k % members) o
