use Rattle.volume_model.proofs.Orderly.{runs_are_orderly as the_law}
use Rattle.volume_model.proofs.laws.runs_are_orderly.Goals as goal

pub returns : goal.returns
returns c = the_law
