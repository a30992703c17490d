use Rattle.std.proofs.Common.{◌≡◌, ◌+◌, [], All, length, vec_len}
use Rattle.journal.specs.Fronts.{log_of}
use Rattle.board.specs.Seats as board
use Rattle.board.specs.Seats.{IsSeatIn}
use Rattle.node_fleet.specs.Mails.{AreSeatsIn, HasNoSteps}
use Rattle.node_fleet.specs.Passes.{IsFresh}
use Rattle.node_fleet.proofs.opening.passes.Given as goal

abbrev pub invariant-loop-seat : goal.invariant-loop-seat
invariant-loop-seat g l = record {
  parts : (l.rest.parts ≡ vec_len l.seats) × (l.rest.amount ≡ 0);
  seats : All (λ s. IsSeatIn g.L.Site.board s × (length (board.steps_of s) ≡ 0)) l.seats.items;
  callers : All (λ s. AreSeatsIn g.L.FleetSite.mail s × HasNoSteps s) l.callers.items;
  many : vec_len l.callers ≡ vec_len l.seats;
  history : log_of l.history.opened ≡ [];
  count : vec_len l.made + vec_len l.seats ≡ vec_len l.initial.seats;
  empty : All IsFresh l.made.items;
}

abbrev pub decreases-loop-seat : goal.decreases-loop-seat
decreases-loop-seat g l = vec_len l.seats
