use Rattle.std.proofs.Common.{◌≡◌, ◌∙◌, ◌+◌, ◌≤◌, ap, arith, rules, length, true, false}
use Rattle.volume_model.specs.Common.{formulas}
use Rattle.quorum_expr.specs.Common.{formula_of, weighed}
use Rattle.quorum_expr.proofs.ExprLaws.{formula_of-KOf}
use Rattle.quorum_expr.proofs.Weighed.{length-weighed}
use Rattle.quorum_checker.specs.Tolerance.{count_of}
use Rattle.quorum_checker.proofs.PlainLosses.{plain_least}
use Rattle.quorum_checker.proofs.plain.plain_loss.Goals as goal
use Rattle.std.proofs.lemmas.Grind.{common_steps}

pub returns-then-not-holds : goal.returns-then-not-holds
returns-then-not-holds g c =
    let of = c.in-KOf.of.items in
    let lost = c.least_members-lost.result in
    let spelled = ap formula_of c.in-KOf.is ∙ formula_of-KOf c.in-KOf.k c.in-KOf.of in
    let yes : c.are_plain.result ≡ true = search rules in
    let few : count_of lost + c.in-KOf.k ≤ length (formulas (weighed formula_of of)) + 1 = omega (arith, length-weighed formula_of of, c.count.ensures) in
    let fails : c.holds.result ≡ false = search rules in
    grind (arith, common_steps, c.contains.ensures.below, plain_least)
