use Rattle.std.proofs.Common.{◌+◌, ◌*◌, map, take}
use Rattle.refutation.specs.Common.{branches_of, branch_depth, depth_of, rule_of}
use Rattle.plan.specs.Puts.{Lists}
use Rattle.plan.specs.Rules.{rule_data}
use Rattle.plan.proofs.certificates.+put.Given as goal

-- the depth, with a rule above its branches
abbrev pub decreases-put_rule : goal.decreases-put_rule
decreases-put_rule g l = 2 * depth_of (rule_of l.rule.now)

abbrev pub decreases-put_branches : goal.decreases-put_branches
decreases-put_branches g l = 2 * branch_depth (branches_of (map rule_of l.then.now)) + 1

-- the branches so far are listed
abbrev pub invariant-put_branches-loop-branch : goal.invariant-put_branches-loop-branch
invariant-put_branches-loop-branch g l = Lists (map rule_data (take l.branch-index l.then)) l.fn.writer l.writer
