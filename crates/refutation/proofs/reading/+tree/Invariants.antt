use Rattle.std.proofs.Common.{◌≡◌, ◌+◌, ◌*◌}
use Rattle.serde_json.specs.Events.{items_len}
use Rattle.refutation.specs.Forms.{rules_of}
use Rattle.refutation.specs.Reading.{each_rule, rule_at}
use Rattle.refutation.proofs.Loop.{with_front}
use Rattle.refutation.proofs.reading.+tree.Given as goal

abbrev pub decreases-branches : goal.decreases-branches
decreases-branches g l = 4 * l.left + 2

abbrev pub decreases-boxed : goal.decreases-boxed
decreases-boxed g l = 4 * l.left + 2

abbrev pub decreases-tree : goal.decreases-tree
decreases-tree g l = 4 * l.left + 1

abbrev pub decreases-tree_of_form : goal.decreases-tree_of_form
decreases-tree_of_form g l = 4 * l.left

abbrev pub decreases-tree_of_branches : goal.decreases-tree_of_branches
decreases-tree_of_branches g l = 4 * l.left + 3

abbrev pub invariant-branches-branches : goal.invariant-branches-branches
invariant-branches-branches g l = with_front (rules_of l.rules.items) (each_rule (rule_at l.left) (g.N.Node.left l.rest)) ≡ each_rule (rule_at l.left) (g.N.Node.left l.initial.rest)

abbrev pub decreases-branches-branches : goal.decreases-branches-branches
decreases-branches-branches g l = items_len (g.N.Node.left l.rest)
