use Rattle.std.proofs.Common.{length}
use Rattle.hydration.proofs.brought.+copied_in.Given as goal

abbrev pub decreases-copied_in : goal.decreases-copied_in
decreases-copied_in l = length l.copies.now
