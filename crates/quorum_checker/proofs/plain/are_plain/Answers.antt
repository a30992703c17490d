use Rattle.std.proofs.Common.{◌≡◌, ◌∙◌, ◌+◌, ap, arith, rules, drop, true, false}
use Rattle.std.specs.FinSet.{contains}
use Rattle.quorum_expr.specs.Common.{formula_of, weighed}
use Rattle.quorum_expr.proofs.ExprLaws.{formula_of-Member}
use Rattle.quorum_expr.proofs.Weighed.{weighed-step}
use Rattle.quorum_checker.proofs.PlainLosses.{plain_step}
use Rattle.quorum_checker.proofs.plain.are_plain.Goals as goal

pub loop-weight-preserved : goal.loop-weight-preserved
loop-weight-preserved g c =
    let one : c.loop-weight-item.result.0 ≡ 1 = omega arith in
    let own : contains c.args.members c.in-Member.member ≡ true = search rules in
    let new : contains c.loop-weight.seen c.in-Member.member ≡ false = search rules in
    plain_step (weighed formula_of (drop c.loop-weight.weight-index c.args.of.now)) (weighed formula_of (drop (c.loop-weight.weight-index + 1) c.args.of.now)) c.loop-weight-item.result.0 c.in-Member.member (formula_of c.loop-weight-item.result.1) c.args.members c.loop-weight.seen c.with-seen.result
    (weighed-step formula_of c.args.of.now c.loop-weight.weight-index c.loop-weight-item.result (omega arith) c.loop-weight-item.is)
    (ap formula_of c.in-Member.is ∙ formula_of-Member _ c.in-Member.member) one own new c.with-seen.ensures
    ∙ c.loop-weight.invariant
