use Rattle.std.proofs.Common.{◌≡◌, ℕ, ◌&&◌, nat_lt}
use Rattle.std.specs.FinSet.{contains}
use Rattle.quorum_expr.specs.Common.{formula_of}
use Rattle.quorum_checker.specs.Tolerance.{is_stopping}
use Rattle.quorum_checker.proofs.tolerance.stopping_members.Given as goal

abbrev pub invariant-loop-member : goal.invariant-loop-member
invariant-loop-member g l = (x : ℕ) → contains l.stopping x ≡ (nat_lt x l.member && is_stopping (formula_of l.expr) l.members x)
