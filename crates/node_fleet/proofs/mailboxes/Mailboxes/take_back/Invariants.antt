use Rattle.std.proofs.Common.{◌≡◌, ◌<◌, ◌≤◌, ◌∷◌, ℕ, Option, Some, vec_len, slice_get}
use Rattle.node_fleet.specs.declared.mailbox.Mailbox.{Mailbox}
use Rattle.node_fleet.specs.declared.mailbox.MailSeat.{MailSeat}
use Rattle.node_fleet.specs.Mails.{back_at, seat_steps, AreBack, Has}
use Rattle.node_fleet.proofs.mailboxes.Mailboxes.take_back.Given as goal

abbrev pub invariant-loop-seat : goal.invariant-loop-seat
invariant-loop-seat l = record {
  rest : (k : ℕ) (s : Option MailSeat) → slice_get l.seats.items k ≡ Some s → slice_get l.initial.seats.items k ≡ Some s;
  back : AreBack l.self l.all;
  low : (k : ℕ) → k < vec_len l.seats → back_at l.all k ≡ back_at l.initial.all k;
  high : (k : ℕ) (m : Mailbox) → vec_len l.seats ≤ k → Has l.self k m → back_at l.all k ≡ seat_steps (slice_get l.initial.seats.items k) ∷ back_at l.initial.all k;
}

abbrev pub decreases-loop-seat : goal.decreases-loop-seat
decreases-loop-seat l = vec_len l.seats
