use Rattle.std.proofs.Common.{◌≡◌, ◌+◌, ◌*◌, ◌≤◌, drop}
use Rattle.volume_model.specs.Common.{total_weight}
use Rattle.quorum_checker.specs.Items.{bare}
use Rattle.quorum_checker.proofs.weights.total.Given as goal

-- what the children so far weigh, and those that are left
abbrev pub invariant-loop-weight : goal.invariant-loop-weight
invariant-loop-weight g l = record {
  so_far : l.all + total_weight (bare (drop l.weight-index l.of)) ≡ total_weight (bare l.of);
  low : l.all ≤ 255 * l.weight-index;
}
