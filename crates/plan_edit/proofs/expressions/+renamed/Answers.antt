use Rattle.std.proofs.Common.{ap, ◌∙◌, sym, map, Global}
use Rattle.volume_model.specs.Common.{at_least}
use Rattle.quorum_expr.specs.declared.expression.Expr.{Expr}
use Rattle.quorum_expr.specs.Common.{formula_of}
use Rattle.quorum_expr.proofs.ExprLaws.{formula_of-KOf}
use Rattle.quorum_expr.proofs.Rebuilt.{pushed, finish, given, Ok-same}
use Rattle.quorum_expr.proofs.Weighed.{seen, weighed-same}
use Rattle.plan_edit.specs.Renamed.{renamed}
use Rattle.plan_edit.proofs.RenamedLaws.{renamed-KOf}
use Rattle.plan_edit.proofs.expressions.+renamed.Goals as goal

pub loop-weight-preserved : goal.loop-weight-preserved
loop-weight-preserved t c =
    pushed (seen formula_of) (seen (λ e. renamed c.args.old c.args.new (formula_of e))) _ _ c.loop-weight-item.result _ _ _ _ c.in_ok-push-in-KOf.ensures.items
    (ap (λ f. (c.loop-weight-item.result.0, f)) (given _ _ c.in_ok-renamed-in-KOf.ensures)) c.loop-weight-test.true c.loop-weight-item.is c.loop-weight.invariant

pub returns-after-loop-weight : goal.returns-after-loop-weight
returns-after-loop-weight t c =
    let new_of = λ (e : Expr Global). renamed c.args.old c.args.new (formula_of e) in
    Ok-same (renamed-KOf c.args.old c.args.new c.in-KOf.k c.args.expr.now c.in-KOf.of c.in-KOf.is
    ∙ sym (formula_of-KOf c.in-KOf.k c.loop-weight.others
    ∙ ap (at_least c.in-KOf.k) (weighed-same formula_of new_of _ _ (finish (seen new_of) _ _ _ _ c.loop-weight-test.false c.loop-weight.invariant ∙ ap (map (seen new_of)) c.deref-weight-items.ensures.value))))
