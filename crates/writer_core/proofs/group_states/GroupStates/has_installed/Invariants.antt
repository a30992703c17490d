use Rattle.std.proofs.Common.{◌≡◌, true}
use Rattle.volume_model.specs.Common.{every_below, sat, place_configuration, place_of, counts_of, counted_by}
use Rattle.writer_core.specs.Groups.{groups_in, group_states_plan}
use Rattle.writer_core.proofs.group_states.GroupStates.has_installed.Given as goal

abbrev pub invariant-loop-group : goal.invariant-loop-group
invariant-loop-group l = every_below l.group (λ g. sat (place_configuration (group_states_plan l.self) g (place_of (groups_in l.self) g)).write (counted_by (counts_of (groups_in l.self) g))) ≡ true
