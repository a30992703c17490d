use Rattle.std.proofs.Common.{length}
use Rattle.recovery.proofs.reported.+found_in.Given as goal

abbrev pub decreases-found_in : goal.decreases-found_in
decreases-found_in l = length l.group_states.now
