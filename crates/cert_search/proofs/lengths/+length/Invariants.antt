use Rattle.std.proofs.Common.{◌≡◌, ◌+◌, ◌-◌, ◌*◌, ◌≤◌, drop, map}
use Rattle.refutation.specs.Common.{branches_of, branch_depth, depth_of, rule_of}
use Rattle.cert_search.specs.Lengths.{branches_length}
use Rattle.cert_search.proofs.lengths.+length.Given as goal

-- the depth, with a rule above its branches
abbrev pub decreases-behind_rule : goal.decreases-behind_rule
decreases-behind_rule g l = 2 * depth_of (rule_of l.rule.now)

abbrev pub decreases-behind_branches : goal.decreases-behind_branches
decreases-behind_branches g l = 2 * branch_depth (branches_of (map rule_of l.branches.now)) + 1

-- the room behind those before, less the lengths of those that are left
abbrev pub invariant-behind_branches-loop-branch : goal.invariant-behind_branches-loop-branch
invariant-behind_branches-loop-branch g l = record {
  room : l.left - branches_length (branches_of (map rule_of (drop l.branch-index l.branches))) ≡ l.room - branches_length (branches_of (map rule_of l.branches));
  depth : branch_depth (branches_of (map rule_of (drop l.branch-index l.branches))) ≤ branch_depth (branches_of (map rule_of l.branches));
}
