use Rattle.std.proofs.Common.{◌+◌, ◌*◌}
use Rattle.explain.proofs.expression_place.+tree.Given as goal

abbrev pub decreases-check_tree : goal.decreases-check_tree
decreases-check_tree l = 2 * l.left

abbrev pub decreases-check_children : goal.decreases-check_children
decreases-check_children l = 2 * l.left + 1
