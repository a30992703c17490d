use Rattle.std.proofs.Common.{◌≡◌, ◌<◌, ℕ, true, slice_index_or}
use Rattle.std.specs.FinSet.{empty, contains, difference}
use Rattle.volume_model.specs.Common.{sat}
use Rattle.quorum_expr.specs.Common.{formula_of}
use Rattle.plan_edit.proofs.new_checking.outlasts_zones.Given as goal

-- the zones so far
abbrev pub invariant-loop-i : goal.invariant-loop-i
invariant-loop-i l =
    (z : ℕ) → z < l.i → sat (formula_of l.expr) (contains (difference l.members (slice_index_or l.zones z empty))) ≡ true
