use Rattle.std.proofs.Common.{◌+◌, ◌-◌, ap, ◌∙◌, sym}
use Rattle.quorum_checker.proofs.Shown.{asked, threshold-is}
use Rattle.quorum_checker.proofs.item.Item.threshold.Goals as goal

pub returns-then-self-clause-meaning : goal.returns-then-self-clause-meaning
returns-then-self-clause-meaning g c =
    threshold-is c.args.self.is_dual c.args.self.expr.now c.in-KOf.k _ c.total-total.result c.in-KOf.of _ c.in-KOf.is c.as_slice-of.ensures.value c.total-total.ensures.sum
    (c.saturating_sub-asked.ensures ∙ (λ i. c.total-total.result + 1 - c.from-k.ensures i) ∙ ap (λ b. asked b c.in-KOf.k c.total-total.result) (sym c.if-self.true))

pub returns-else-self-clause-meaning : goal.returns-else-self-clause-meaning
returns-else-self-clause-meaning g c =
    threshold-is c.args.self.is_dual c.args.self.expr.now c.in-KOf.k _ c.total-total.result c.in-KOf.of _ c.in-KOf.is c.as_slice-of.ensures.value c.total-total.ensures.sum
    (c.from-k.ensures ∙ ap (λ b. asked b c.in-KOf.k c.total-total.result) (sym c.if-self.false))
