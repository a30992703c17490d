use Rattle.std.proofs.Common.{◌+◌, ◌*◌, drop, map}
use Rattle.refutation.specs.Common.{branches_of, branch_depth, depth_of, EachHasRanges, rule_of}
use Rattle.plan.proofs.sizes.+size.Given as goal

-- the depth, with a rule above its branches
abbrev pub decreases-with_rule : goal.decreases-with_rule
decreases-with_rule g l = 2 * depth_of (rule_of l.rule.now)

abbrev pub decreases-with_branches : goal.decreases-with_branches
decreases-with_branches g l = 2 * branch_depth (branches_of (map rule_of l.then.now)) + 1

-- all have their ranges where those that are left do
abbrev pub invariant-with_branches-loop-branch : goal.invariant-with_branches-loop-branch
invariant-with_branches-loop-branch g l = EachHasRanges (branches_of (map rule_of (drop l.branch-index l.then))) → EachHasRanges (branches_of (map rule_of l.then))
