use Rattle.std.proofs.Common.{◌≡◌, ◌-◌, ◌≤◌, ◌++◌, length, take, replicate, max}
use Rattle.volume_model.specs.Common.{no_group}
use Rattle.writer_core.specs.GroupStates.{groups_of}
use Rattle.writer_core.proofs.places.extend.Given as goal

abbrev pub invariant-more : goal.invariant-more
invariant-more l = record {
  within : length l.initial.group_states.items ≤ length l.group_states.items;
  few : length l.group_states.items ≤ max l.groups (length l.initial.group_states.items);
  more : groups_of l.group_states.items ≡ groups_of l.initial.group_states.items ++ replicate (length l.group_states.items - length l.initial.group_states.items) no_group;
  front : take (length l.initial.group_states.items) l.group_states.items ≡ l.initial.group_states.items;
}

abbrev pub decreases-more : goal.decreases-more
decreases-more l = l.groups - length l.group_states.items
