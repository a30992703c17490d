use Rattle.std.proofs.Common.{◌+◌, ◌*◌}
use Rattle.cert_search.proofs.tree_search.rules.+rules.Given as goal

-- The levels that a tree may still have, and below them which function calls which.
abbrev pub decreases-refute : goal.decreases-refute
decreases-refute g l = 4 * l.levels

abbrev pub decreases-open : goal.decreases-open
decreases-open g l = 4 * l.levels + 1

abbrev pub decreases-pick : goal.decreases-pick
decreases-pick g l = 4 * l.levels + 1

abbrev pub decreases-pick_some : goal.decreases-pick_some
decreases-pick_some g l = 4 * l.levels + 2

abbrev pub decreases-close_pairs : goal.decreases-close_pairs
decreases-close_pairs g l = 4 * l.levels + 1

abbrev pub decreases-match_two : goal.decreases-match_two
decreases-match_two g l = 4 * l.levels + 2

abbrev pub decreases-match_some : goal.decreases-match_some
decreases-match_some g l = 4 * l.levels + 3
