use Rattle.std.proofs.Common.{◌≡◌}
use Rattle.node_fleet.specs.Seats.{IsSeatOf, steps_of}
use Rattle.node_fleet.proofs.mailbox.Mailbox.put.Given as goal

abbrev pub invariant-loop : goal.invariant-loop
invariant-loop g l = IsSeatOf l.self l.seat × (steps_of l.seat ≡ steps_of l.initial.seat)
