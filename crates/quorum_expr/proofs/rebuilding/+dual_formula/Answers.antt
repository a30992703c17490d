use Rattle.std.proofs.Common.{◌+◌, ◌-◌, ◌++◌, ap, ◌∙◌, sym, map, falls}
use Rattle.std.proofs.Math.Nat.{le_of_lt, le_refl}
use Rattle.volume_model.specs.Common.{at_least, total_weight, dual_of}
use Rattle.quorum_expr.specs.Expr.{formula_of, weighed}
use Rattle.quorum_expr.proofs.ExprLaws.{formula_of-KOf}
use Rattle.quorum_expr.proofs.Handed.{wants, handed}
use Rattle.quorum_expr.proofs.Rebuilt.{pushed, finish, counts_step, counts-KOf, counts-children, small_total, within_all, rest_fits, dual_of-Member, dual_of-KOf, given, Ok-same}
use Rattle.quorum_expr.proofs.Weighed.{seen, weighed-same, total-step, total-done}
use Rattle.quorum_expr.proofs.Held.{none_yet, few_more}
use Rattle.quorum_expr.proofs.Smaller.{smaller}
use Rattle.quorum_expr.proofs.rebuilding.+dual_formula.Goals as goal
use Rattle.std.proofs.lemmas.Grind.{common_steps}
use Rattle.std.proofs.Common.{arith}

pub returns-in-Member : goal.returns-in-Member
returns-in-Member g t c = Ok-same (dual_of-Member _ c.args.expr.now c.in-Member.member c.in-Member.is)

pub returns-in_err-clone-in-KOf : goal.returns-in_err-clone-in-KOf
returns-in_err-clone-in-KOf g t c = wants formula_of c.from_residual.result _ c.from_residual.ensures.1

pub returns-in_err-clone-in-KOf-2 : goal.returns-in_err-clone-in-KOf-2
returns-in_err-clone-in-KOf-2 g t c = wants formula_of c.from_residual-in_err-clone-in-KOf-2.result _ c.from_residual-in_err-clone-in-KOf-2.ensures.1

pub returns-in_err-push-in-KOf : goal.returns-in_err-push-in-KOf
returns-in_err-push-in-KOf g t c = wants formula_of c.from_residual-in_err-push-in-KOf.result _ c.from_residual-in_err-push-in-KOf.ensures.1

pub returns-in_err-dual_formula-in-KOf : goal.returns-in_err-dual_formula-in-KOf
returns-in_err-dual_formula-in-KOf g t c = handed formula_of c.from_residual-in_err-dual_formula-in-KOf.result _ _ _ c.in_err-dual_formula-in-KOf.ensures c.from_residual-in_err-dual_formula-in-KOf.ensures.1

pub loop-weight-init : goal.loop-weight-init
loop-weight-init g t c = record {
  so_far = ap (λ xs. map (seen formula_of) xs ++ map (seen (λ e. dual_of (formula_of e))) c.deref-weight-items.result.now) c.new-duals.ensures.items;
  counts = counts-children c.args.expr.now c.in-KOf.k c.in-KOf.of c.deref-weight-items.result.now c.in-KOf.is c.deref-weight-items.ensures.value c.requires;
  total = none_yet _;
  low = le_refl 0;
}

pub bounds-weight-items-weight-index : goal.bounds-weight-items-weight-index
bounds-weight-items-weight-index g t c = c.loop-weight-test.true

pub offset_bounds-weight-items-weight-index : goal.offset_bounds-weight-items-weight-index
offset_bounds-weight-items-weight-index g t c = le_of_lt c.loop-weight-test.true

pub loop-weight-smaller : goal.loop-weight-smaller
loop-weight-smaller g t c = falls _ _ c.loop-weight-test.true

pub dual_formula-requires : goal.dual_formula-requires
dual_formula-requires g t c κs within = (
  smaller c.args.expr.now c.in-KOf.k c.in-KOf.of c.deref-weight-items.result.now c.loop-weight.weight-index c.loop-weight-item.result t c.in-KOf.is c.deref-weight-items.ensures.value c.loop-weight-test.true c.loop-weight-item.is c.decreases,
  (within.0, (within.1, (counts_step _ _ c.loop-weight-item.result c.loop-weight-test.true c.loop-weight-item.is c.loop-weight.invariant.counts).0)),
)

pub loop-weight-preserved : goal.loop-weight-preserved
loop-weight-preserved g t c = grind (arith, common_steps, c.in_ok-push-in-KOf.ensures.items, c.in_ok-dual_formula-in-KOf.ensures, c.loop-weight-test.true, c.loop-weight-item.is, c.loop-weight.invariant.so_far, c.loop-weight.invariant.counts, c.wide.ensures.same, c.loop-weight.invariant.total, c.wide.ensures.small, c.loop-weight.invariant.low, pushed, seen, given, counts_step, total-step, few_more)

pub overflow_add-result : goal.overflow_add-result
overflow_add-result g t c = grind (arith, common_steps)

pub overflow_sub-result : goal.overflow_sub-result
overflow_sub-result g t c =
    let counts = counts-KOf c.args.expr.now c.in-KOf.k c.in-KOf.of c.deref-weight-items.result.now c.in-KOf.is c.deref-weight-items.ensures.value c.requires in
    let whole = total-done formula_of c.deref-weight-items.result.now c.loop-weight.weight-index c.loop-weight.all _ c.loop-weight-test.false c.loop-weight.invariant.total in
    let low = small_total c.loop-weight.all c.loop-weight.weight-index _ c.loop-weight.invariant.low c.loop-weight.auto.weight-index-end counts.2 in
    within_all _ _ _ _ c.from.ensures counts.1 whole

pub overflow_cast-result : goal.overflow_cast-result
overflow_cast-result g t c =
    let counts = counts-KOf c.args.expr.now c.in-KOf.k c.in-KOf.of c.deref-weight-items.result.now c.in-KOf.is c.deref-weight-items.ensures.value c.requires in
    let whole = total-done formula_of c.deref-weight-items.result.now c.loop-weight.weight-index c.loop-weight.all _ c.loop-weight-test.false c.loop-weight.invariant.total in
    let low = small_total c.loop-weight.all c.loop-weight.weight-index _ c.loop-weight.invariant.low c.loop-weight.auto.weight-index-end counts.2 in
    rest_fits _ _ _ c.from.ensures counts.0 low

pub returns : goal.returns
returns g t c =
    let whole = total-done formula_of c.deref-weight-items.result.now c.loop-weight.weight-index c.loop-weight.all _ c.loop-weight-test.false c.loop-weight.invariant.total ∙ ap (λ xs. total_weight (weighed formula_of xs)) c.deref-weight-items.ensures.value in
    Ok-same (
    ap (λ e. dual_of (formula_of e)) c.in-KOf.is ∙ dual_of-KOf c.in-KOf.k c.in-KOf.of
    ∙ sym (formula_of-KOf _ c.loop-weight.duals
    ∙ (λ i. at_least (whole i + 1 - c.from.ensures i)
    (weighed-same formula_of (λ e. dual_of (formula_of e)) _ _ (finish (seen (λ e. dual_of (formula_of e))) _ _ _ _ c.loop-weight-test.false c.loop-weight.invariant.so_far ∙ ap (map (seen (λ e. dual_of (formula_of e)))) c.deref-weight-items.ensures.value) i))))
