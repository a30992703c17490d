use Rattle.std.proofs.Common.{length}
use Rattle.recovery.proofs.reported.+newest_reported.Given as goal

abbrev pub decreases-newest_reported : goal.decreases-newest_reported
decreases-newest_reported l = length l.group_states.now
