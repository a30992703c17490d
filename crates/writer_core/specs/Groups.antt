-- A client's state of the groups of its plan.
use Rattle.std.specs.Prelude.{List}
use Rattle.std.specs.Arc.{arc_value}
use Rattle.volume_model.specs.Common.{Plan, ClientGroup, unborn}
use Rattle.volume_model.specs.Client.{Client}
use Rattle.plan.specs.Common.{checked_model}
use Rattle.writer_core.specs.declared.group_states.GroupStates.{GroupStates}
use Rattle.writer_core.specs.GroupStates.{groups_of}

-- the groups of the model for the states
abbrev pub groups_in : GroupStates → List ClientGroup
groups_in s = groups_of s.list.items

-- the plan of the groups
abbrev pub group_states_plan : GroupStates → Plan
group_states_plan s = checked_model (arc_value s.plan)

-- a client with this state of its groups
abbrev pub keeping : List ClientGroup → Client
keeping groups = record unborn { groups = groups }
