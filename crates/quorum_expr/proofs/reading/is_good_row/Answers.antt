use Rattle.std.proofs.Common.{◌≤◌, subst}
use Rattle.quorum_expr.specs.Forms.{weights_data}
use Rattle.quorum_expr.proofs.Held.{few_more}
use Rattle.quorum_expr.proofs.Weighed.{at_least_one}
use Rattle.quorum_expr.proofs.Rows.{row-small, row-long, row-fits, row-total, row-unfit, row-judged}
use Rattle.quorum_expr.proofs.reading.is_good_row.Goals as goal
use Rattle.std.proofs.lemmas.Grind.{common_steps}
use Rattle.std.proofs.Common.{arith}
use Rattle.std.proofs.Common.{rules}

pub returns-then-count-gt64-clause-good : goal.returns-then-count-gt64-clause-good
returns-then-count-gt64-clause-good c = row-long c.args.k c.args.count (weights_data c.args.weights.now) c.if-count-gt64.true

pub returns-then-weight-eq0-clause-good : goal.returns-then-weight-eq0-clause-good
returns-then-weight-eq0-clause-good c = row-unfit c.args.k c.args.count c.loop-number.number c.at-weight.result (weights_data c.args.weights.now) c.loop-number-test.true c.at-weight.ensures c.if-weight-eq0.true c.loop-number.invariant.fits

pub loop-number-preserved : goal.loop-number-preserved
loop-number-preserved c =
    let small = subst (λ n. n ≤ 255) c.wide-all.ensures.same c.wide-all.ensures.small in
    search (rules, c.loop-number-test.true, c.at-weight.ensures, c.if-weight-eq0.false, c.loop-number.invariant.fits, c.wide-all.ensures.same, c.loop-number.invariant.total, c.wide-all.ensures.small, c.loop-number.invariant.low, row-fits, row-total, few_more)

pub returns-then-k-ge1-clause-good : goal.returns-then-k-ge1-clause-good
returns-then-k-ge1-clause-good c = grind (arith, common_steps, c.if-k-ge1.true, c.from.ensures, c.if-count-gt64.false, c.loop-number-test.false, c.loop-number.invariant.fits, c.loop-number.invariant.total, at_least_one, row-judged)

pub returns-then-k-ge1-clause-small : goal.returns-then-k-ge1-clause-small
returns-then-k-ge1-clause-small c = λ held. row-small c.args.k c.from.result c.loop-number.all c.loop-number.number c.args.count c.from.ensures held c.loop-number.invariant.low c.loop-number.auto.number-end c.if-count-gt64.false
