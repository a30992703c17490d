use Rattle.std.proofs.Common.{length}
use Rattle.plan_edit.proofs.word_reading.+with_words.Given as goal

abbrev pub decreases-with_words : goal.decreases-with_words
decreases-with_words a = length a.text.now
