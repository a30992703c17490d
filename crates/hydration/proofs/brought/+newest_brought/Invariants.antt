use Rattle.std.proofs.Common.{length}
use Rattle.hydration.proofs.brought.+newest_brought.Given as goal

abbrev pub decreases-newest_brought : goal.decreases-newest_brought
decreases-newest_brought l = length l.copies.now
