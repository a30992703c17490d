use Rattle.std.proofs.Common.{◌≡◌, length, replicate}
use Rattle.volume_model.specs.Common.{born_group}
use Rattle.writer_core.specs.GroupStates.{groups_of}
use Rattle.writer_core.proofs.group_states.GroupStates.at_roots.Given as goal

abbrev pub invariant-groups : goal.invariant-groups
invariant-groups l = record {
  roots : groups_of l.list.items ≡ replicate l.counter born_group;
  many : length l.list.items ≡ l.counter;
}
