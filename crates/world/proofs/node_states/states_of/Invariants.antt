use Rattle.std.proofs.Common.{◌≡◌, ◌+◌, ◌++◌, length}
use Rattle.std.specs.Vec.Iter.{into_iter_items}
use Rattle.world.specs.NodeStates.{states_from}
use Rattle.world.proofs.node_states.states_of.Given as goal

abbrev pub invariant-loop-place : goal.invariant-loop-place
invariant-loop-place l = record {
  count : l.slot + length (into_iter_items l.place-iterator) ≡ length l.fn.actors.nodes.items;
  states : l.states.items ++ states_from l.slot (into_iter_items l.place-iterator) ≡ states_from 0 l.fn.actors.nodes.items;
}
