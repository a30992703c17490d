use Rattle.std.proofs.Common.{◌≡◌, ◌+◌, ◌*◌, ◌≤◌, drop}
use Rattle.quorum_checker.specs.Items.{bare}
use Rattle.quorum_checker.specs.Refutes.{paired_weight}
use Rattle.quorum_checker.proofs.weights.paired.Given as goal

-- what the pairs so far weigh, and those that are left
abbrev pub invariant-loop-pair : goal.invariant-loop-pair
invariant-loop-pair g l = record {
  so_far : l.all + paired_weight (bare l.of) (bare l.others) (drop l.pair-index l.pairs) ≡ paired_weight (bare l.of) (bare l.others) l.pairs;
  low : l.all ≤ 255 * l.pair-index;
}
