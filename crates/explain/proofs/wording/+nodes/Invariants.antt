use Rattle.std.proofs.Common.{◌≤◌}
use Rattle.explain.proofs.wording.+nodes.Given as goal

abbrev pub invariant-loop-child : goal.invariant-loop-child
invariant-loop-child l = 1 ≤ l.count
