use Rattle.std.proofs.Common.{ℕ, ap, sym, ◌∙◌}
use Rattle.volume_model.specs.Common.{at_least}
use Rattle.quorum_expr.specs.Common.{formula_of, weighed}
use Rattle.quorum_expr.proofs.ExprLaws.{formula_of-KOf}
use Rattle.plan_edit.proofs.new_checking.is_pair.Goals as goal

pub returns-then-k-wanted : goal.returns-then-k-wanted
returns-then-k-wanted c =
    λ same. ap formula_of c.in-KOf.is ∙ formula_of-KOf c.in-KOf.k c.in-KOf.of
    ∙ ap (λ (k : ℕ). at_least k (weighed formula_of c.in-KOf.of.items)) c.if-k-wanted.true
    ∙ ap (λ xs. at_least c.args.wanted (weighed formula_of xs)) (sym c.deref.ensures.value)
    ∙ ap (at_least c.args.wanted) (c.are_two.ensures same)
