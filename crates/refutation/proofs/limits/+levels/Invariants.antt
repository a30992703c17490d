use Rattle.std.proofs.Common.{◌≡◌, ◌+◌, ◌*◌, drop, map, nat_le}
use Rattle.refutation.specs.Rule.{branches_of, branch_depth, depth_of}
use Rattle.refutation.specs.Refutation.{rule_of}
use Rattle.refutation.proofs.limits.+levels.Given as goal

-- the depth, with a rule above its branches
abbrev pub decreases-is_shallow : goal.decreases-is_shallow
decreases-is_shallow g l = 2 * depth_of (rule_of l.rule.now)

abbrev pub decreases-are_shallow : goal.decreases-are_shallow
decreases-are_shallow g l = 2 * branch_depth (branches_of (map rule_of l.branches.now)) + 1

-- what holds of the branches that are left holds of all
abbrev pub invariant-are_shallow-loop-branch : goal.invariant-are_shallow-loop-branch
invariant-are_shallow-loop-branch g l = nat_le (branch_depth (branches_of (map rule_of (drop l.branch-index l.branches)))) l.levels ≡ nat_le (branch_depth (branches_of (map rule_of l.branches))) l.levels
