use Rattle.std.proofs.Common.{◌≡◌, drop}
use Rattle.quorum_expr.specs.Common.{formula_of, weighed}
use Rattle.quorum_checker.specs.Naming.{named_by}
use Rattle.quorum_checker.proofs.naming.+members_named.Given as goal

-- those so far, with those of the children that are left, are those of all
abbrev pub invariant-loop-child : goal.invariant-loop-child
invariant-loop-child g l =
    named_by (weighed formula_of (drop l.child-index l.child-items)) l.members ≡ named_by (weighed formula_of l.child-items) l.initial.members
