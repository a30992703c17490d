use Rattle.std.proofs.Common.{length}
use Rattle.quorum_checker.proofs.cases.+split.Given as goal

-- how many members are left
abbrev pub decreases-split : goal.decreases-split
decreases-split g l = length l.members.now
