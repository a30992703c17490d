use Rattle.std.proofs.Common.{◌≡◌, ◌++◌, map, take, drop}
use Rattle.volume_model.specs.Common.{with_places, reread_group}
use Rattle.wire.specs.Common.{place_of}
use Rattle.writer_core.specs.GroupStates.{groups_of}
use Rattle.writer_core.proofs.places.reread.Given as goal

abbrev pub invariant-loop-group : goal.invariant-loop-group
invariant-loop-group l = groups_of (take l.group l.group_states) ++ with_places reread_group (groups_of (drop l.group l.group_states)) (map place_of (drop l.group l.places)) ≡ with_places reread_group (groups_of l.initial.group_states) (map place_of l.places)
