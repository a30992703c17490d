use Rattle.std.proofs.Common.{◌≡◌, drop}
use Rattle.quorum_expr.specs.Common.{formula_of, weighed}
use Rattle.plan_edit.proofs.expressions.+are_same.Given as goal

-- if the children that are left are the same, then all are
abbrev pub invariant-loop-i : goal.invariant-loop-i
invariant-loop-i l =
    weighed formula_of (drop l.i l.of) ≡ weighed formula_of (drop l.i l.others) → weighed formula_of l.of ≡ weighed formula_of l.others
