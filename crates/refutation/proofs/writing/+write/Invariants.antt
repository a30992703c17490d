use Rattle.std.proofs.Common.{◌≡◌, ◌+◌, ◌*◌, ◌≤◌, ◌++◌, drop, map}
use Rattle.serde_json.specs.View.{view}
use Rattle.refutation.specs.Rule.{branches_of, branch_depth, depth_of}
use Rattle.refutation.specs.Refutation.{rule_of}
use Rattle.refutation.specs.Ranges.{EachHasRanges}
use Rattle.refutation.specs.Writing.{certificate_data}
use Rattle.refutation.proofs.writing.+write.Given as goal

-- the depth, with a rule above its branches
abbrev pub decreases-tree_json : goal.decreases-tree_json
decreases-tree_json g l = 2 * depth_of (rule_of l.rule.now)

abbrev pub decreases-branches_json : goal.decreases-branches_json
decreases-branches_json g l = 2 * branch_depth (branches_of (map rule_of l.then.now)) + 1

-- what is written so far, the branches that are left, and that those before them have their ranges
abbrev pub invariant-branches_json-loop-branch : goal.invariant-branches_json-loop-branch
invariant-branches_json-loop-branch g l = record {
  written : map view l.list.items ++ map (λ r. certificate_data (rule_of r)) (drop l.branch-index l.then) ≡ map (λ r. certificate_data (rule_of r)) l.then;
  ranges : EachHasRanges (branches_of (map rule_of (drop l.branch-index l.then))) → EachHasRanges (branches_of (map rule_of l.then));
  depth : branch_depth (branches_of (map rule_of (drop l.branch-index l.then))) ≤ branch_depth (branches_of (map rule_of l.then));
}
