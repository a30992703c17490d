use Rattle.std.proofs.Common.{◌++◌, ap, ◌∙◌, sym, map, falls}
use Rattle.std.proofs.Math.Nat.{le_of_lt}
use Rattle.volume_model.specs.Common.{at_least}
use Rattle.quorum_expr.specs.Expr.{formula_of}
use Rattle.quorum_expr.proofs.ExprLaws.{formula_of-KOf}
use Rattle.quorum_expr.proofs.Handed.{wants, handed}
use Rattle.quorum_expr.proofs.Rebuilt.{pushed, finish, copy_of-Member, given, Ok-same}
use Rattle.quorum_expr.proofs.Weighed.{seen, weighed-same}
use Rattle.quorum_expr.proofs.Smaller.{smaller}
use Rattle.quorum_expr.proofs.rebuilding.+copy_in.Goals as goal
use Rattle.std.proofs.Common.{rules}

pub returns-in-Member : goal.returns-in-Member
returns-in-Member g t c = Ok-same (copy_of-Member _ c.args.expr.now c.in-Member.member c.in-Member.is)

pub returns-in_err-clone-in-KOf : goal.returns-in_err-clone-in-KOf
returns-in_err-clone-in-KOf g t c = wants formula_of c.from_residual.result _ c.from_residual.ensures.1

pub returns-in_err-clone-in-KOf-2 : goal.returns-in_err-clone-in-KOf-2
returns-in_err-clone-in-KOf-2 g t c = wants formula_of c.from_residual-in_err-clone-in-KOf-2.result _ c.from_residual-in_err-clone-in-KOf-2.ensures.1

pub returns-in_err-push-in-KOf : goal.returns-in_err-push-in-KOf
returns-in_err-push-in-KOf g t c = wants formula_of c.from_residual-in_err-push-in-KOf.result _ c.from_residual-in_err-push-in-KOf.ensures.1

pub returns-in_err-copy_in-in-KOf : goal.returns-in_err-copy_in-in-KOf
returns-in_err-copy_in-in-KOf g t c = handed formula_of c.from_residual-in_err-copy_in-in-KOf.result _ _ _ c.in_err-copy_in-in-KOf.ensures c.from_residual-in_err-copy_in-in-KOf.ensures.1

pub loop-weight-init : goal.loop-weight-init
loop-weight-init g t c = ap (λ xs. map (seen formula_of) xs ++ map (seen formula_of) c.deref-weight-items.result.now) c.new-copies.ensures.items

pub bounds-weight-items-weight-index : goal.bounds-weight-items-weight-index
bounds-weight-items-weight-index g t c = c.loop-weight-test.true

pub offset_bounds-weight-items-weight-index : goal.offset_bounds-weight-items-weight-index
offset_bounds-weight-items-weight-index g t c = le_of_lt c.loop-weight-test.true

pub copy_in-requires : goal.copy_in-requires
copy_in-requires g t c κs within = search (rules, c.in-KOf.is, c.deref-weight-items.ensures.value, c.loop-weight-test.true, c.loop-weight-item.is, smaller)

pub loop-weight-smaller : goal.loop-weight-smaller
loop-weight-smaller g t c = falls _ _ c.loop-weight-test.true

pub loop-weight-preserved : goal.loop-weight-preserved
loop-weight-preserved g t c =
    pushed (seen formula_of) (seen formula_of) _ _ c.loop-weight-item.result _ _ _ _ c.in_ok-push-in-KOf.ensures.items (ap (λ f. (c.loop-weight-item.result.0, f)) (given _ _ c.in_ok-copy_in-in-KOf.ensures)) c.loop-weight-test.true c.loop-weight-item.is c.loop-weight.invariant

pub returns : goal.returns
returns g t c = Ok-same (
    ap formula_of c.in-KOf.is ∙ formula_of-KOf c.in-KOf.k c.in-KOf.of
    ∙ sym (formula_of-KOf c.in-KOf.k c.loop-weight.copies
    ∙ ap (at_least c.in-KOf.k) (weighed-same formula_of formula_of _ _ (finish (seen formula_of) _ _ _ _ c.loop-weight-test.false c.loop-weight.invariant ∙ ap (map (seen formula_of)) c.deref-weight-items.ensures.value))))
