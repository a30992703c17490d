use Rattle.std.proofs.Common.{◌≡◌, ◌+◌, ◌*◌, ◌≤◌, ◌++◌, drop, map}
use Rattle.volume_model.specs.Common.{total_weight, dual_of, EachHasCounts}
use Rattle.quorum_expr.specs.Expr.{formula_of, weighed}
use Rattle.quorum_expr.specs.Valid.{nodes}
use Rattle.quorum_expr.proofs.Weighed.{seen}
use Rattle.quorum_expr.proofs.rebuilding.+dual_formula.Given as goal

-- how many nodes there are
abbrev pub decreases-dual_formula : goal.decreases-dual_formula
decreases-dual_formula g l = nodes (formula_of l.expr.now)

-- the duals so far, and those of the children that are left
abbrev pub invariant-loop-weight : goal.invariant-loop-weight
invariant-loop-weight g l = record {
  so_far : map (seen formula_of) l.duals.items ++ map (seen (λ e. dual_of (formula_of e))) (drop l.weight-index l.weight-items) ≡ map (seen (λ e. dual_of (formula_of e))) l.weight-items;
  counts : EachHasCounts (weighed formula_of (drop l.weight-index l.weight-items));
  total : l.all + total_weight (weighed formula_of (drop l.weight-index l.weight-items)) ≡ total_weight (weighed formula_of l.weight-items);
  low : l.all ≤ 255 * l.weight-index;
}
