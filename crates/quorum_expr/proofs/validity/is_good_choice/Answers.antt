use Rattle.std.proofs.Common.{refl}
use Rattle.std.proofs.Math.Nat.{le_refl}
use Rattle.quorum_expr.specs.Expr.{formula_of}
use Rattle.quorum_expr.proofs.Held.{none_yet}
use Rattle.quorum_expr.proofs.Weighed.{too_many, unfit, sum_fits, at_least_one, judged}
use Rattle.quorum_expr.proofs.validity.is_good_choice.Goals as goal
use Rattle.std.proofs.lemmas.Grind.{common_steps}
use Rattle.std.proofs.Common.{arith}

pub returns-then-of-gt64 : goal.returns-then-of-gt64
returns-then-of-gt64 g c = too_many formula_of c.args.k c.args.of.now c.if-of-gt64.true

pub loop-weight-init : goal.loop-weight-init
loop-weight-init g c = record { fits = refl; total = none_yet _; low = le_refl 0 }

pub returns-then-weight-eq0 : goal.returns-then-weight-eq0
returns-then-weight-eq0 g c = unfit formula_of c.args.k c.args.of.now c.loop-weight.weight-index c.loop-weight-item.result c.loop-weight-test.true c.loop-weight-item.is c.if-weight-eq0.true c.loop-weight.invariant.fits

pub overflow_add-all : goal.overflow_add-all
overflow_add-all g c = sum_fits c.loop-weight.all c.loop-weight.weight-index _ c.wide-all.result c.loop-weight.invariant.low c.loop-weight.auto.weight-index-end c.if-of-gt64.false c.wide-all.ensures.small

pub loop-weight-preserved : goal.loop-weight-preserved
loop-weight-preserved g c = grind (arith, common_steps)

pub returns-then-k-ge1 : goal.returns-then-k-ge1
returns-then-k-ge1 g c = grind (arith, common_steps, c.if-k-ge1.true, c.from.ensures, c.if-of-gt64.false, c.loop-weight-test.false, c.loop-weight.invariant.fits, c.loop-weight.invariant.total, at_least_one, judged)
