use Rattle.std.proofs.Common.{◌≡◌, ℕ, ◌+◌, drop, ap, sym, subst, ◌∙◌, ◌||◌}
use Rattle.std.specs.Ordering.{nat_cmp}
use Rattle.std.specs.FinSet.{FinSet, contains, contains-empty}
use Rattle.volume_model.specs.Common.{copied_by}
use Rattle.hydration.specs.KeptCopies.{all_kept_copies}
use Rattle.hydration.proofs.Bringing.{copied-more, copied-same}
use Rattle.hydration.proofs.brought.copied_by.Goals as goal
use Rattle.hydration.proofs.brought.copied_by.Goals.{then-is_complete, else-is_complete}

pub loop-copy-init : goal.loop-copy-init
loop-copy-init c x =
    let rest = copied_by (all_kept_copies c.args.copies.now) x in
    ap (λ s. contains s x || rest) c.empty-members.ensures ∙ ap (λ b. b || rest) (contains-empty nat_cmp x)

pub loop-copy-preserved : goal.loop-copy-preserved
loop-copy-preserved c =
    let copies = c.args.copies.now in
    let i = c.loop-copy.copy-index in
    let P : FinSet nat_cmp → Type 0 = λ s. (x : ℕ) → (contains s x || copied_by (all_kept_copies (drop (i + 1) copies)) x) ≡ copied_by (all_kept_copies copies) x in
    elim c.if-is_complete.branch [
      | then-is_complete w ↦
          subst P (sym (w.members-is ∙ w.with-members.ensures)) (copied-more copies i c.copy-item.result c.loop-copy.members (copied_by (all_kept_copies copies)) c.loop-copy-test.true c.copy-item.is (sym c.is_complete.ensures ∙ w.if-is_complete.true) c.loop-copy.invariant)
      | else-is_complete w ↦
          subst P (sym w.members-is) (copied-same copies i c.copy-item.result c.loop-copy.members (copied_by (all_kept_copies copies)) c.loop-copy-test.true c.copy-item.is (sym c.is_complete.ensures ∙ w.if-is_complete.false) c.loop-copy.invariant)
    ]
