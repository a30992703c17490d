use Rattle.std.proofs.Common.{◌<◌, ℕ, slice_index_or}
use Rattle.std.specs.FinSet.{empty, difference}
use Rattle.quorum_expr.specs.Common.{formula_of}
use Rattle.plan_edit.specs.NewPlans.{OutlastsOne}
use Rattle.plan_edit.proofs.new_checking.outlasts_zones_and_one.Given as goal

-- the zones so far
abbrev pub invariant-loop-i : goal.invariant-loop-i
invariant-loop-i l =
    (z : ℕ) → z < l.i → OutlastsOne (formula_of l.expr) (difference l.members (slice_index_or l.zones z empty))
