use Rattle.std.proofs.Common.{rules, ◌≡◌, ◌+◌, ◌-◌, drop, refl, ap, ◌∙◌, sym, true, false, Some, None, falls}
use Rattle.std.proofs.Math.Nat.{le_of_lt}
use Rattle.quorum_expr.specs.Expr.{formula_of, weighed}
use Rattle.quorum_expr.specs.Valid.{or_then, good_choice, row_fault}
use Rattle.quorum_expr.proofs.Tested.{no_choice, row-is, row_step, row_done, row_skipped, no_level, good_member, bad_member, counted_member, counted_step, counted_all, one_fewer, some_positive}
use Rattle.quorum_expr.proofs.validity.+fault_within.Goals as goal
use Rattle.std.proofs.lemmas.Grind.{common_steps}
use Rattle.std.proofs.Common.{arith}

pub returns-then-levels-eq0-clause-fault : goal.returns-then-levels-eq0-clause-fault
returns-then-levels-eq0-clause-fault g t c = no_level (formula_of c.args.expr.now) c.args.levels c.if-levels-eq0.true

pub returns-then-levels-eq0-clause-counted : goal.returns-then-levels-eq0-clause-counted
returns-then-levels-eq0-clause-counted g t c = tt

pub returns-then-member-lt64-clause-fault : goal.returns-then-member-lt64-clause-fault
returns-then-member-lt64-clause-fault g t c = good_member c.args.expr.now c.in-Member.member c.args.levels c.if-levels-eq0.false c.in-Member.is c.if-member-lt64.true

pub returns-then-member-lt64-clause-counted : goal.returns-then-member-lt64-clause-counted
returns-then-member-lt64-clause-counted g t c = counted_member c.args.expr.now c.in-Member.member _ c.args.room.now c.in-Member.is c.saturating_sub.ensures

pub returns-else-member-lt64-clause-fault : goal.returns-else-member-lt64-clause-fault
returns-else-member-lt64-clause-fault g t c = bad_member c.args.expr.now c.in-Member.member c.args.levels c.if-levels-eq0.false c.in-Member.is c.if-member-lt64.false

pub returns-else-member-lt64-clause-counted : goal.returns-else-member-lt64-clause-counted
returns-else-member-lt64-clause-counted g t c = tt

pub loop-child-init : goal.loop-child-init
loop-child-init g t c = record { fault = refl; counted = refl }

pub offset_bounds-child-items-child-index : goal.offset_bounds-child-items-child-index
offset_bounds-child-items-child-index g t c = le_of_lt c.loop-child-test.true

pub overflow_sub-levels : goal.overflow_sub-levels
overflow_sub-levels g t c = some_positive c.args.levels c.if-levels-eq0.false

pub fault_within-requires : goal.fault_within-requires
fault_within-requires g t c κs within = (one_fewer c.args.levels t c.if-levels-eq0.false c.decreases, within)

pub returns-in-Some-clause-counted : goal.returns-in-Some-clause-counted
returns-in-Some-clause-counted g t c = tt

pub loop-child-smaller : goal.loop-child-smaller
loop-child-smaller g t c = falls _ _ c.loop-child-test.true

pub loop-child-preserved : goal.loop-child-preserved
loop-child-preserved g t c = search (rules, c.loop-child-test.true, c.loop-child-item.is, c.in_default.ensures.fault, c.loop-child.invariant.fault, c.in_default.ensures.counted, c.loop-child.invariant.counted, row_skipped, counted_step)

pub returns-after-loop-child-clause-counted : goal.returns-after-loop-child-clause-counted
returns-after-loop-child-clause-counted g t c = search (rules, c.in-KOf.is, c.deref-child-items.ensures.value, c.loop-child-test.false, c.saturating_sub.ensures, c.loop-child.invariant.counted, counted_all)

pub returns-then-not-is_good_choice-clause-fault : goal.returns-then-not-is_good_choice-clause-fault
returns-then-not-is_good_choice-clause-fault g t c =
    let bad : c.is_good_choice.result ≡ false = search rules in
    no_choice c.args.expr.now c.in-KOf.k c.in-KOf.of c.as_slice.result.now c.args.levels c.if-levels-eq0.false c.in-KOf.is c.as_slice.ensures.value (sym c.is_good_choice.ensures ∙ bad)

pub returns-in-Some-clause-fault : goal.returns-in-Some-clause-fault
returns-in-Some-clause-fault g t c =
    let choice : good_choice c.in-KOf.k (weighed formula_of c.deref-child-items.result.now) ≡ true = grind (arith, common_steps) in
    let row : row_fault (weighed formula_of c.deref-child-items.result.now) (c.args.levels - 1) ≡ Some c.in-Some.fault =
    sym c.loop-child.invariant.fault ∙ row_step c.deref-child-items.result.now c.loop-child.child-index (c.args.levels - 1) c.loop-child-item.result c.loop-child-test.true c.loop-child-item.is
    ∙ ap (λ o. or_then o (row_fault (weighed formula_of (drop (c.loop-child.child-index + 1) c.deref-child-items.result.now)) (c.args.levels - 1))) (sym c.fault_within.ensures.fault ∙ c.in-Some.is) in
    row-is c.args.expr.now c.in-KOf.k c.in-KOf.of c.deref-child-items.result.now c.args.levels _ c.if-levels-eq0.false c.in-KOf.is c.deref-child-items.ensures.value choice row

pub returns-after-loop-child-clause-fault : goal.returns-after-loop-child-clause-fault
returns-after-loop-child-clause-fault g t c =
    let choice : good_choice c.in-KOf.k (weighed formula_of c.deref-child-items.result.now) ≡ true = grind (arith, common_steps) in
    row-is c.args.expr.now c.in-KOf.k c.in-KOf.of c.deref-child-items.result.now c.args.levels None c.if-levels-eq0.false c.in-KOf.is c.deref-child-items.ensures.value choice
    (sym c.loop-child.invariant.fault ∙ row_done c.deref-child-items.result.now c.loop-child.child-index (c.args.levels - 1) c.loop-child-test.false)
