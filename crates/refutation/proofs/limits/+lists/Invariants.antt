use Rattle.std.proofs.Common.{◌≡◌, ◌+◌, ◌*◌, drop, map}
use Rattle.refutation.specs.Rule.{branches_of, branch_depth, depth_of}
use Rattle.refutation.specs.Limits.{each_keeps_lists}
use Rattle.refutation.specs.Refutation.{rule_of}
use Rattle.refutation.proofs.limits.+lists.Given as goal

-- the depth, with a rule above its branches
abbrev pub decreases-keep_lists : goal.decreases-keep_lists
decreases-keep_lists g l = 2 * depth_of (rule_of l.rule.now)

abbrev pub decreases-each_keep_lists : goal.decreases-each_keep_lists
decreases-each_keep_lists g l = 2 * branch_depth (branches_of (map rule_of l.branches.now)) + 1

-- what holds of the branches that are left holds of all
abbrev pub invariant-each_keep_lists-loop-branch : goal.invariant-each_keep_lists-loop-branch
invariant-each_keep_lists-loop-branch g l = each_keeps_lists (branches_of (map rule_of (drop l.branch-index l.branches))) ≡ each_keeps_lists (branches_of (map rule_of l.branches))
