use Rattle.std.proofs.Common.{◌≡◌, ◌-◌, drop}
use Rattle.std.specs.FinSet as set
use Rattle.volume_model.specs.Common.{weight_held}
use Rattle.quorum_expr.specs.Expr.{formula_of, weighed}
use Rattle.quorum_expr.specs.Valid.{nodes}
use Rattle.quorum_expr.proofs.expression.+holds.Given as goal

-- how many nodes there are
abbrev pub decreases-holds : goal.decreases-holds
decreases-holds g l = nodes (formula_of l.expr.now)

-- what is missing so far, less what holds of the children that are left
abbrev pub invariant-loop-weight : goal.invariant-loop-weight
invariant-loop-weight g l =
    l.missing - weight_held (weighed formula_of (drop l.weight-index l.weight-items)) (set.contains l.members) ≡ l.initial.missing - weight_held (weighed formula_of l.weight-items) (set.contains l.members)
