use Rattle.std.proofs.Common.{◌+◌, ◌*◌}
use Rattle.explain.proofs.certificate_place.+rule.Given as goal

abbrev pub decreases-check_rule : goal.decreases-check_rule
decreases-check_rule l = 2 * l.left

abbrev pub decreases-check_branches : goal.decreases-check_branches
decreases-check_branches l = 2 * l.left + 1
