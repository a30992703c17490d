use Rattle.journal.proofs.Growing.{begins}
use Rattle.journal.proofs.history.Opened.new.Goals as goal

pub of_words-requires : goal.of_words-requires
of_words-requires c = begins
