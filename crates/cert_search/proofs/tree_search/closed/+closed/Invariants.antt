use Rattle.std.proofs.Common.{◌+◌, ◌*◌}
use Rattle.cert_search.proofs.tree_search.closed.+closed.Given as goal

-- The levels that a tree may still have, and below them which function calls which.
abbrev pub decreases-closed : goal.decreases-closed
decreases-closed g l = 2 * l.levels

abbrev pub decreases-picked : goal.decreases-picked
decreases-picked g l = 2 * l.levels + 1

abbrev pub decreases-matched : goal.decreases-matched
decreases-matched g l = 2 * l.levels + 1
