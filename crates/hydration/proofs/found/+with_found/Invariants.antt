use Rattle.std.proofs.Common.{length}
use Rattle.hydration.proofs.found.+with_found.Given as goal

abbrev pub decreases-with_found : goal.decreases-with_found
decreases-with_found l = length l.copies.now
