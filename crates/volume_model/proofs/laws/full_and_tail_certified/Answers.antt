use Rattle.volume_model.proofs.WorkedPlans.{full_and_tail_certified as the_law}
use Rattle.volume_model.proofs.laws.full_and_tail_certified.Goals as goal

pub returns : goal.returns
returns c = the_law
