use Rattle.std.proofs.Common.{◌≡◌, drop}
use Rattle.quorum_expr.specs.Common.{formula_of, weighed}
use Rattle.plan_edit.specs.NewPlans.{weighing}
use Rattle.plan_edit.proofs.new_checking.are_weighing.Given as goal

-- if the children that are left are the members that are left, then all are
abbrev pub invariant-loop-i : goal.invariant-loop-i
invariant-loop-i l =
    weighed formula_of (drop l.i l.of) ≡ weighing l.weights (drop l.i l.list) → weighed formula_of l.of ≡ weighing l.weights l.list
