use Rattle.std.proofs.Common.{◌≡◌, ◌+◌, ◌*◌, ◌≤◌, drop}
use Rattle.quorum_checker.specs.Items.{bare}
use Rattle.quorum_checker.specs.Refutes.{picked_weight}
use Rattle.quorum_checker.proofs.weights.picked.Given as goal

-- what the numbers so far weigh, and those that are left
abbrev pub invariant-loop-number : goal.invariant-loop-number
invariant-loop-number g l = record {
  so_far : l.all + picked_weight (bare l.of) (drop l.number-index l.numbers) ≡ picked_weight (bare l.of) l.numbers;
  low : l.all ≤ 255 * l.number-index;
}
