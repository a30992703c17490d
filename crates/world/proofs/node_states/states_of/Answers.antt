use Rattle.std.proofs.Common.{Option, append-nil}
use Rattle.std.proofs.lemmas.List.{nil_from_length}
use Rattle.world.proofs.NodeStates.{nodes_listed}
use Rattle.world.proofs.node_states.states_of.Goals as goal
use Rattle.std.proofs.lemmas.Grind.{common_steps}
use Rattle.std.proofs.Common.{arith}

pub returns : goal.returns
returns c = grind (arith, common_steps, c.loop-place.invariant.states, c.requires, nil_from_length, append-nil, Option, nodes_listed)
