use Rattle.plan_edit.proofs.WeightLaws.{ones}
use Rattle.plan_edit.proofs.word_reading.no_weights.Goals as goal

pub returns-clause-ones : goal.returns-clause-ones
returns-clause-ones c = ones
