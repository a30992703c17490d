use Rattle.std.proofs.Common.{◌∙◌, ap, sym}
use Rattle.quorum_expr.specs.Common.{formula_of, weighed}
use Rattle.quorum_expr.proofs.Weighed.{weighed-done}
use Rattle.quorum_expr.proofs.ExprLaws.{formula_of-KOf}
use Rattle.quorum_checker.specs.Naming.{named, named_by}
use Rattle.quorum_checker.proofs.naming.+members_named.Goals as goal

pub returns-after-loop-child : goal.returns-after-loop-child
returns-after-loop-child g t c =
    sym (ap (λ of. named_by of c.loop-child.members) (weighed-done formula_of c.deref-child-items.result.now c.loop-child.child-index c.loop-child-test.false))
    ∙ c.loop-child.invariant ∙ (λ i. named_by (weighed formula_of (c.deref-child-items.ensures.value i)) (c.empty-members.ensures i))
    ∙ sym (ap named (ap formula_of c.in-KOf.is ∙ formula_of-KOf c.in-KOf.k c.in-KOf.of))
