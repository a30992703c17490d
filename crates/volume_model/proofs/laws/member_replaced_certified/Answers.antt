use Rattle.volume_model.proofs.WorkedPlans.{member_replaced_certified as the_law}
use Rattle.volume_model.proofs.laws.member_replaced_certified.Goals as goal

pub returns : goal.returns
returns c = the_law
