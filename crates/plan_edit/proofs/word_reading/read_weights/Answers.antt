use Rattle.plan_edit.proofs.WeightLaws.{weighs_all}
use Rattle.plan_edit.proofs.word_reading.read_weights.Goals as goal

pub returns : goal.returns
returns c = weighs_all c.args.text.now c.no_weights.result.members c.no_weights.result.of c.with_pairs.result c.no_weights.ensures.ones c.with_pairs.ensures
