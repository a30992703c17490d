use Rattle.std.proofs.Common.{length}
use Rattle.plan_edit.proofs.word_reading.+with_pairs.Given as goal

abbrev pub decreases-with_pairs : goal.decreases-with_pairs
decreases-with_pairs a = length a.text.now
