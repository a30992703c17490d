use Rattle.std.proofs.Common.{◌≡◌, ◌++◌, take, drop}
use Rattle.plan.specs.Common.{checked_model}
use Rattle.volume_model.specs.Common.{raised, raised_from}
use Rattle.writer_core.specs.GroupStates.{groups_of, ArePlaced}
use Rattle.writer_core.proofs.places.raise.Given as goal

abbrev pub invariant-loop-group : goal.invariant-loop-group
invariant-loop-group l = record {
  placed : ArePlaced (checked_model l.plan) (groups_of l.group_states);
  raised : groups_of (take l.group l.group_states) ++ raised_from (checked_model l.plan) l.group (groups_of (drop l.group l.group_states)) ≡ raised (checked_model l.plan) (groups_of l.initial.group_states);
}
