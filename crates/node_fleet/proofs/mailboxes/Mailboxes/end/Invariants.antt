use Rattle.std.proofs.Common.{◌≡◌, ◌<◌, ℕ}
use Rattle.node_fleet.specs.declared.mailbox.Mailbox.{Mailbox}
use Rattle.node_fleet.specs.Mail.{AreKept}
use Rattle.node_fleet.specs.Mails.{back_at, AreBack, Has}
use Rattle.node_fleet.proofs.mailboxes.Mailboxes.end.Given as goal

abbrev pub invariant-loop-slot : goal.invariant-loop-slot
invariant-loop-slot l = record {
  back : AreBack l.self l.all;
  same : (k : ℕ) → back_at l.all k ≡ back_at l.initial.all k;
  kept : (k : ℕ) (m : Mailbox) → k < l.slot → Has l.self k m → AreKept (back_at l.initial.all k);
}
