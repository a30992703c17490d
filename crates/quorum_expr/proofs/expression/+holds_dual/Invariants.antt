use Rattle.std.proofs.Common.{◌≡◌, ◌+◌, ◌≤◌, drop, ◌*◌}
use Rattle.std.specs.FinSet as set
use Rattle.volume_model.specs.Common.{weight_held, total_weight, dual_of}
use Rattle.quorum_expr.specs.Expr.{formula_of, weighed}
use Rattle.quorum_expr.specs.Valid.{nodes}
use Rattle.quorum_expr.proofs.expression.+holds_dual.Given as goal

-- how many nodes there are
abbrev pub decreases-holds_dual : goal.decreases-holds_dual
decreases-holds_dual g l = nodes (formula_of l.expr.now)

-- what held so far, and what holds_dual of the children that are left
abbrev pub invariant-loop-weight : goal.invariant-loop-weight
invariant-loop-weight g l =
    record {
      so_far : l.held + weight_held (weighed (λ e. dual_of (formula_of e)) (drop l.weight-index l.weight-items)) (set.contains l.members) ≡ weight_held (weighed (λ e. dual_of (formula_of e)) l.weight-items) (set.contains l.members);
      few : l.held ≤ 255 * l.weight-index;
      total : l.all + total_weight (weighed formula_of (drop l.weight-index l.weight-items)) ≡ total_weight (weighed formula_of l.weight-items);
      low : l.all ≤ 255 * l.weight-index;
    }
