use Rattle.std.proofs.Common.{length}
use Rattle.recovery.proofs.reported.+records_in.Given as goal

abbrev pub decreases-records_in : goal.decreases-records_in
decreases-records_in l = length l.copies.now
