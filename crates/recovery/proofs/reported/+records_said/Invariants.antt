use Rattle.std.proofs.Common.{length}
use Rattle.recovery.proofs.reported.+records_said.Given as goal

abbrev pub decreases-records_said : goal.decreases-records_said
decreases-records_said l = length l.group_states.now
