use Rattle.std.proofs.Common.{◌≡◌, drop}
use Rattle.quorum_expr.specs.Common.{formula_of, weighed}
use Rattle.quorum_checker.specs.PlainChildren.{are_plain}
use Rattle.quorum_checker.proofs.plain.are_plain.Given as goal

-- the children that are left are plain after those so far where all are
abbrev pub invariant-loop-weight : goal.invariant-loop-weight
invariant-loop-weight g l =
    are_plain (weighed formula_of (drop l.weight-index l.of)) l.members l.seen ≡ are_plain (weighed formula_of l.of) l.members l.initial.seen
