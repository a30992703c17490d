use Rattle.std.proofs.Common.{◌≡◌, ◌+◌, All, vec_len}
use Rattle.node_fleet.specs.Mails.{ids_in, AreNewSeats, AreSeatsOf, FitEach, HasNoSteps}
use Rattle.node_fleet.proofs.mailboxes.Mailboxes.add.Given as goal

abbrev pub invariant-loop-caller : goal.invariant-loop-caller
invariant-loop-caller l = record {
  count : vec_len l.given + vec_len l.callers ≡ vec_len l.initial.callers;
  seats : AreNewSeats (vec_len l.callers) l.fn.mailbox l.seats.items;
  callers : All (λ s. FitEach (ids_in l.fn.self.boxes.items) s.seats.items × HasNoSteps s) l.callers.items;
  given : All (λ s. AreSeatsOf l.self s × HasNoSteps s) l.given.items;
}

abbrev pub decreases-loop-caller : goal.decreases-loop-caller
decreases-loop-caller l = vec_len l.callers
