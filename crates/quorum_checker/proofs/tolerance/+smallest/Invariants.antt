use Rattle.std.proofs.Common.{length}
use Rattle.quorum_checker.proofs.tolerance.+smallest.Given as goal

-- how many members are left
abbrev pub decreases-smallest : goal.decreases-smallest
decreases-smallest g l = length l.rest.now
