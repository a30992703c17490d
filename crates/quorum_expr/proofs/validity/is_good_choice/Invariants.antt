use Rattle.std.proofs.Common.{◌≡◌, ◌+◌, ◌*◌, ◌≤◌, drop}
use Rattle.volume_model.specs.Common.{total_weight}
use Rattle.quorum_expr.specs.Expr.{formula_of, weighed}
use Rattle.quorum_expr.specs.Valid.{each_fits}
use Rattle.quorum_expr.proofs.validity.is_good_choice.Given as goal

-- the weights so far are good ones, and what they add up to
abbrev pub invariant-loop-weight : goal.invariant-loop-weight
invariant-loop-weight g l = record {
  fits : each_fits (weighed formula_of (drop l.weight-index l.of)) ≡ each_fits (weighed formula_of l.of);
  total : l.all + total_weight (weighed formula_of (drop l.weight-index l.of)) ≡ total_weight (weighed formula_of l.of);
  low : l.all ≤ 255 * l.weight-index;
}
