use Rattle.std.proofs.Common.{◌≡◌, ℕ, ◌+◌, drop, ap, sym, subst, ◌∙◌, ◌||◌}
use Rattle.std.specs.Ordering.{nat_cmp}
use Rattle.std.specs.FinSet.{contains, contains-empty}
use Rattle.volume_model.specs.Common.{senders}
use Rattle.hydration.specs.Copies.{copies_in}
use Rattle.hydration.proofs.CopiesMore.{senders-more}
use Rattle.hydration.proofs.found.senders.Goals as goal

pub loop-copy-init : goal.loop-copy-init
loop-copy-init c x =
    let rest = senders (copies_in c.args.copies.now) x in
    ap (λ s. contains s x || rest) c.empty-members.ensures ∙ ap (λ b. b || rest) (contains-empty nat_cmp x)

pub loop-copy-preserved : goal.loop-copy-preserved
loop-copy-preserved c =
    let copies = c.args.copies.now in
    let i = c.loop-copy.copy-index in
    subst (λ s. (x : ℕ) → (contains s x || senders (copies_in (drop (i + 1) copies)) x) ≡ senders (copies_in copies) x) (sym c.with-members.ensures)
    (senders-more copies i c.copy-item.result c.loop-copy.members (senders (copies_in copies)) c.loop-copy-test.true c.copy-item.is c.loop-copy.invariant)
