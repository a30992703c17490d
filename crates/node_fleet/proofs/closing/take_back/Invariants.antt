use Rattle.std.proofs.Common.{◌≡◌, ◌+◌, ◌++◌, ℕ, length, map, vec_len, All, sum_by}
use Rattle.volume_model.specs.Common.{IsRefused}
use Rattle.board.specs.Seats.{returned, AreReturnedTo}
use Rattle.node_fleet.specs.Mails.{back_at, steps_at, AreBack, Has}
use Rattle.node_fleet.specs.declared.mailbox.Mailbox.{Mailbox}
use Rattle.journal.specs.Passes.{journal_of}
use Rattle.node_fleet.specs.Passes.{steps_of, notes_of, seat_of}
use Rattle.journal.specs.PassSteps.{Stands}
use Rattle.node_fleet.proofs.closing.take_back.Given as goal

abbrev pub invariant-loop-pass : goal.invariant-loop-pass
invariant-loop-pass g l = record {
  parts : l.share.parts + vec_len l.passes ≡ vec_len l.fn.passes;
  amount : l.share.amount + sum_by (λ p. length (steps_of p)) l.passes.items ≡ sum_by (λ p. length (steps_of p)) l.fn.passes.items;
  entries : journal_of l.log ≡ journal_of l.fn.log;
  stand : All (λ p. All (Stands g.L.Site.plan (journal_of l.fn.log)) (steps_of p)) l.passes.items → All (λ p. All (Stands g.L.Site.plan (journal_of l.fn.log)) (steps_of p)) l.fn.passes.items;
  refused : All (λ p. All (IsRefused g.L.Site.plan g.L.Site.slots (length g.L.Site.cells) (journal_of l.fn.log)) (notes_of p)) l.passes.items → All (λ p. All (IsRefused g.L.Site.plan g.L.Site.slots (length g.L.Site.cells) (journal_of l.fn.log)) (notes_of p)) l.fn.passes.items;
  of_board : AreReturnedTo g.L.Site.board l.seats;
  seats : map seat_of l.passes.items ++ returned l.seats ≡ map seat_of l.fn.passes.items;
  back : AreBack l.mail l.back;
  mails : (slot : ℕ) (m : Mailbox) → Has l.mail slot m → map (λ p. steps_at p.mail slot) l.passes.items ++ back_at l.back slot ≡ map (λ p. steps_at p.mail slot) l.fn.passes.items;
}

abbrev pub decreases-loop-pass : goal.decreases-loop-pass
decreases-loop-pass g l = vec_len l.passes
