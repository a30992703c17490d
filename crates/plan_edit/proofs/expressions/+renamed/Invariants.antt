use Rattle.std.proofs.Common.{◌≡◌, ◌++◌, drop, map}
use Rattle.quorum_expr.specs.Common.{formula_of}
use Rattle.quorum_expr.proofs.Weighed.{seen}
use Rattle.plan_edit.specs.Renamed.{renamed}
use Rattle.plan_edit.proofs.expressions.+renamed.Given as goal

-- the children so far, and those that are left
abbrev pub invariant-loop-weight : goal.invariant-loop-weight
invariant-loop-weight l =
    map (seen formula_of) l.others.items ++ map (seen (λ e. renamed l.old l.new (formula_of e))) (drop l.weight-index l.weight-items) ≡ map (seen (λ e. renamed l.old l.new (formula_of e))) l.weight-items
