use Rattle.volume_model.proofs.Grounded.{complete_point_is_greatest as the_law}
use Rattle.volume_model.proofs.laws.complete_point_is_greatest.Goals as goal

pub returns : goal.returns
returns c = the_law
