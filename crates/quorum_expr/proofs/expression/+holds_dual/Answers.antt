use Rattle.std.proofs.Common.{◌+◌, ◌∙◌, refl, ap, sym, falls}
use Rattle.std.proofs.Math.Nat.{le_of_lt, le_refl}
use Rattle.std.specs.FinSet as set
use Rattle.volume_model.specs.Common.{dual_of}
use Rattle.quorum_expr.specs.Expr.{formula_of}
use Rattle.quorum_expr.proofs.Held.{none_yet, held_more, held_same, few_more, few_same, dual_sat-Member, dual_sat-KOf}
use Rattle.quorum_expr.proofs.Weighed.{total-step}
use Rattle.quorum_expr.proofs.Smaller.{smaller}
use Rattle.quorum_expr.proofs.expression.+holds_dual.Goals as goal
use Rattle.quorum_expr.proofs.expression.+holds_dual.Goals.{then-holds_dual, else-holds_dual}
use Rattle.std.proofs.Common.{rules}

pub returns-in-Member : goal.returns-in-Member
returns-in-Member g t c = c.contains.ensures.is_in ∙ sym (dual_sat-Member c.args.expr.now c.in-Member.member (set.contains c.args.members) c.in-Member.is)

pub loop-weight-init : goal.loop-weight-init
loop-weight-init g t c = record { so_far = none_yet _; few = le_refl 0; total = none_yet _; low = le_refl 0 }

pub offset_bounds-weight-items-weight-index : goal.offset_bounds-weight-items-weight-index
offset_bounds-weight-items-weight-index g t c = le_of_lt c.loop-weight-test.true

pub holds_dual-requires : goal.holds_dual-requires
holds_dual-requires g t c κs within = search (rules, c.in-KOf.is, c.deref-weight-items.ensures.value, c.loop-weight-test.true, c.loop-weight-item.is, smaller)

pub loop-weight-smaller : goal.loop-weight-smaller
loop-weight-smaller g t c = falls _ _ c.loop-weight-test.true

pub loop-weight-preserved : goal.loop-weight-preserved
loop-weight-preserved g t c = elim c.if-holds_dual.branch [
  | then-holds_dual w ↦ record {
    so_far = held_more (λ e. dual_of (formula_of e)) c.deref-weight-items.result.now c.loop-weight.weight-index c.loop-weight-item.result (set.contains c.args.members) _ _ _ c.loop-weight-test.true c.loop-weight-item.is (sym w.if-holds_dual.ensures) (w.held-is ∙ ap (λ n. c.loop-weight.held + n) w.wide-held.ensures.same) c.loop-weight.invariant.so_far;
    few = few_more _ _ w.wide-held.result c.loop-weight.weight-index w.wide-held.ensures.small w.held-is c.loop-weight.invariant.few;
    total = total-step formula_of c.deref-weight-items.result.now c.loop-weight.weight-index c.loop-weight-item.result _ _ _ c.loop-weight-test.true c.loop-weight-item.is (ap (λ n. c.loop-weight.all + n) c.wide-all.ensures.same) c.loop-weight.invariant.total;
    low = few_more _ _ c.wide-all.result c.loop-weight.weight-index c.wide-all.ensures.small refl c.loop-weight.invariant.low;
  }
  | else-holds_dual w ↦ record {
    so_far = held_same (λ e. dual_of (formula_of e)) c.deref-weight-items.result.now c.loop-weight.weight-index c.loop-weight-item.result (set.contains c.args.members) _ _ _ c.loop-weight-test.true c.loop-weight-item.is (sym w.if-holds_dual.ensures) w.held-is c.loop-weight.invariant.so_far;
    few = few_same _ _ c.loop-weight.weight-index w.held-is c.loop-weight.invariant.few;
    total = total-step formula_of c.deref-weight-items.result.now c.loop-weight.weight-index c.loop-weight-item.result _ _ _ c.loop-weight-test.true c.loop-weight-item.is (ap (λ n. c.loop-weight.all + n) c.wide-all.ensures.same) c.loop-weight.invariant.total;
    low = few_more _ _ c.wide-all.result c.loop-weight.weight-index c.wide-all.ensures.small refl c.loop-weight.invariant.low;
  }
]

pub returns-after-loop-weight : goal.returns-after-loop-weight
returns-after-loop-weight g t c = dual_sat-KOf c.args.expr.now c.in-KOf.k c.in-KOf.of (set.contains c.args.members) c.deref-weight-items.result.now c.loop-weight.weight-index _ _ _ c.in-KOf.is c.deref-weight-items.ensures.value c.loop-weight-test.false c.loop-weight.invariant.so_far c.loop-weight.invariant.total c.from.ensures
