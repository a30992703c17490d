use Rattle.std.proofs.Common.{◌≡◌, true}
use Rattle.volume_model.specs.Common.{every_below, sat, senders, place_configuration, place_of, reports_of}
use Rattle.writer_core.specs.Groups.{groups_in, group_states_plan}
use Rattle.writer_core.proofs.group_states.GroupStates.has_read.Given as goal

abbrev pub invariant-loop-group : goal.invariant-loop-group
invariant-loop-group l = every_below l.group (λ g. sat (place_configuration (group_states_plan l.self) g (place_of (groups_in l.self) g)).read (senders (reports_of (groups_in l.self) g))) ≡ true
