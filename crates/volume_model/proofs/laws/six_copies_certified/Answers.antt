use Rattle.volume_model.proofs.WorkedPlans.{six_copies_certified as the_law}
use Rattle.volume_model.proofs.laws.six_copies_certified.Goals as goal

pub returns : goal.returns
returns c = the_law
