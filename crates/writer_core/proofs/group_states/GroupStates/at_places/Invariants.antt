use Rattle.std.proofs.Common.{◌≡◌, length, map, take}
use Rattle.volume_model.specs.Common.{newly_at}
use Rattle.wire.specs.Common.{place_of}
use Rattle.writer_core.specs.GroupStates.{groups_of}
use Rattle.writer_core.proofs.group_states.GroupStates.at_places.Given as goal

abbrev pub invariant-loop-place : goal.invariant-loop-place
invariant-loop-place l = record {
  found : groups_of l.list.items ≡ map newly_at (map place_of (take l.place-index l.places));
  many : length l.list.items ≡ l.place-index;
}
