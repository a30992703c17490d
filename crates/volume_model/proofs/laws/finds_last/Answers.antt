use Rattle.volume_model.proofs.Finds.{finds_last as the_law}
use Rattle.volume_model.proofs.laws.finds_last.Goals as goal

pub returns : goal.returns
returns c = the_law
