use Rattle.std.proofs.Common.{◌<◌, Option, subst, arith, IfSome, ltb-true}
use Rattle.std.specs.Ordering.{nat_cmp}
use Rattle.std.specs.FinSet.{FinSet}
use Rattle.quorum_expr.specs.Common.{formula_of}
use Rattle.quorum_checker.specs.Tolerance.{count_of, IsLeastLoss}
use Rattle.plan_edit.proofs.new_checking.outlasts.Goals as goal

pub returns-in-Some : goal.returns-in-Some
unfolding count_of
returns-in-Some c =
    let f = formula_of c.args.expr.now in
    let is : IsLeastLoss f c.args.members c.in-Some.least = subst (λ (o : Option (FinSet nat_cmp)). IfSome o (IsLeastLoss f c.args.members)) c.in-Some.is c.in_ok-least.ensures.least in
    λ more loss few.
    let most : c.args.lost < c.len.result = ltb-true c.args.lost c.len.result more in
    is.least loss (omega (arith, few, most, c.len.ensures))
