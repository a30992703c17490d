use Rattle.std.proofs.Common.{length}
use Rattle.hydration.proofs.found.+newest_with.Given as goal

abbrev pub decreases-newest_with : goal.decreases-newest_with
decreases-newest_with l = length l.copies.now
