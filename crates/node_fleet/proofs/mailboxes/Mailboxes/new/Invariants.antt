use Rattle.std.proofs.Common.{◌≡◌, ℕ, All, Option, Some, vec_len, slice_get}
use Rattle.plan.specs.Common.{checked_model}
use Rattle.node_fleet.specs.declared.mailbox.Mailbox.{Mailbox}
use Rattle.node_fleet.specs.Mails.{AreNew, AreSeatsOf, HasNoSteps}
use Rattle.node_fleet.proofs.Homes.{IsHome}
use Rattle.node_fleet.proofs.mailboxes.Mailboxes.new.Given as goal

abbrev pub invariant-loop-k : goal.invariant-loop-k
invariant-loop-k l = record {
  long : vec_len l.mailboxes.boxes ≡ l.k;
  count : vec_len l.seats ≡ l.callers;
  homes : (k : ℕ) (m : Option Mailbox) → slice_get l.mailboxes.boxes.items k ≡ Some m → IsHome (checked_model l.plan) k m;
  fresh : AreNew l.callers l.mailboxes;
  seats : All (λ s. AreSeatsOf l.mailboxes s × HasNoSteps s) l.seats.items;
}
