use Rattle.std.proofs.Common.{◌≡◌, ◌<◌, ℕ, true}
use Rattle.std.specs.FinSet.{contains, remove}
use Rattle.volume_model.specs.Common.{sat}
use Rattle.quorum_expr.specs.Common.{formula_of}
use Rattle.plan_edit.proofs.new_checking.outlasts_one.Given as goal

-- the members so far
abbrev pub invariant-loop-member : goal.invariant-loop-member
invariant-loop-member l = (x : ℕ) → x < l.member → sat (formula_of l.expr) (contains (remove l.members x)) ≡ true
