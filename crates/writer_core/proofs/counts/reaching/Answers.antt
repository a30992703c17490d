use Rattle.std.proofs.Common.{◌≡◌, ℕ, ◌+◌, ◌<◌, ◌≤◌, drop, nat_le, true, arith, ap, sym, subst, ◌∙◌, ◌||◌}
use Rattle.std.specs.Ordering.{nat_cmp}
use Rattle.std.specs.FinSet.{contains, contains-empty}
use Rattle.volume_model.specs.Common.{reaching}
use Rattle.std.proofs.lemmas.Bool.Decides.{nat_tests}
use Rattle.writer_core.specs.Counts.{counts_of}
use Rattle.writer_core.proofs.Counting.{reaching-joins}
use Rattle.writer_core.proofs.counts.reaching.Goals as goal
use Rattle.writer_core.proofs.counts.reaching.Goals.{then-limit-count, else-limit-count}
use Rattle.std.proofs.lemmas.Grind.{common_steps}

nat_le_true : {m n : ℕ} → m ≤ n → nat_le m n ≡ true
nat_le_true h = grind (arith, nat_tests)

pub loop-count-init : goal.loop-count-init
loop-count-init c x =
    let rest = reaching (counts_of c.args.counts.now) c.args.limit x in
    ap (λ s. contains s x || rest) c.empty-members.ensures ∙ ap (λ b. b || rest) (contains-empty nat_cmp x)

pub loop-count-preserved : goal.loop-count-preserved
loop-count-preserved c =
    let counts = c.args.counts.now in
    let i = c.loop-count.count-index in
    let limit = c.args.limit in
    let count = c.count-item.result in
    let whole = reaching (counts_of counts) limit in
    elim c.if-limit-count.branch [
      | then-limit-count w ↦ subst (λ s. (x : ℕ) → (contains s x || reaching (counts_of (drop (i + 1) counts)) limit x) ≡ whole x) (sym (w.members-is ∙ w.with-members.ensures))
          (reaching-joins counts i limit count c.loop-count.members whole c.loop-count-test.true c.count-item.is (nat_le_true w.if-limit-count.true) c.loop-count.invariant)
      | else-limit-count w ↦ grind (arith, common_steps)
    ]
