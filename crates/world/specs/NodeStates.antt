-- The nodes at the end of a run.
use Rattle.std.specs.Prelude.{ℕ, suc, Bool, ◌*◌, ◌/◌, ◌%◌, List, [], ◌∷◌, Option, Some, None, length}
use Rattle.volume_model.specs.Common.{each_below, Plan, is_named, scl, World}
use Rattle.volume_model.specs.Node.{Node}
use Rattle.segment_core.specs.declared.segment.Segment.{Segment}
use Rattle.segment_core.specs.Segment.{node_of}
use Rattle.world.specs.Slots.{members}
use Rattle.world.specs.declared.node_states.NodeState.{NodeState}

-- the listed state of a node
abbrev pub node_state : ℕ → ℕ → Node → NodeState
node_state group member node = record {
  group = group;
  member = member;
  volume_epoch = node.volume;
  membership_epoch = node.place.epoch;
  is_whole = node.whole;
  complete_point = scl node.contents.records;
  records = length node.contents.records;
}

-- the plan names the member of this slot
abbrev pub names_slot : Plan → ℕ → Bool
names_slot plan slot = is_named plan (slot / members) (slot % members)

-- the listed state of the node in a slot
abbrev pub state_in_slot : World → ℕ → NodeState
state_in_slot world slot = node_state (slot / members) (slot % members) (world.nodes (slot / members) (slot % members))

-- the states of the nodes that the plan names, by group and member
abbrev pub nodes_in : Plan → World → List NodeState
nodes_in plan world = each_below (plan.groups * members) (names_slot plan) (state_in_slot world)

-- the same for segments, of which the first is in this slot
abbrev pub states_from : ℕ → List (Option Segment) → List NodeState
states_from slot [] = []
states_from slot (None ∷ rest) = states_from (suc slot) rest
states_from slot (Some segment ∷ rest) = node_state (slot / members) (slot % members) (node_of segment) ∷ states_from
    (suc slot) rest
