use Rattle.std.proofs.Common.{◌≡◌, ◌+◌, ◌*◌, ◌≤◌, ◌++◌, drop, map}
use Rattle.refutation.specs.Rule.{branches_of, branch_depth, depth_of}
use Rattle.refutation.specs.Refutation.{rule_of}
use Rattle.refutation.specs.Forms.{rules_of}
use Rattle.refutation.proofs.copying.+copy.Given as goal

-- the depth, with a rule above its branches
abbrev pub decreases-copy_tree : goal.decreases-copy_tree
decreases-copy_tree g l = 2 * depth_of (rule_of l.rule.now)

abbrev pub decreases-copy_branches : goal.decreases-copy_branches
decreases-copy_branches g l = 2 * branch_depth (branches_of (map rule_of l.then.now)) + 1

-- the copies so far, and the branches that are left
abbrev pub invariant-copy_branches-loop-rule : goal.invariant-copy_branches-loop-rule
invariant-copy_branches-loop-rule g l = record {
  copied : rules_of l.copies.items ++ rules_of (drop l.rule-index l.then) ≡ rules_of l.then;
  depth : branch_depth (branches_of (map rule_of (drop l.rule-index l.then))) ≤ branch_depth (branches_of (map rule_of l.then));
}
