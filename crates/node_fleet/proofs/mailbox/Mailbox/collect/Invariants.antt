use Rattle.std.proofs.Common.{◌≡◌}
use Rattle.node_fleet.specs.Seats.{IsSeatOf, steps_of}
use Rattle.node_fleet.proofs.mailbox.Mailbox.collect.Given as goal

abbrev pub invariant-loop : goal.invariant-loop
invariant-loop g l = IsSeatOf l.self l.seat × (steps_of l.seat ≡ steps_of l.initial.seat)

abbrev pub invariant-loop-2 : goal.invariant-loop-2
invariant-loop-2 g l = IsSeatOf l.self l.seat × (steps_of l.seat ≡ steps_of l.initial.seat)
