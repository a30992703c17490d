use Rattle.volume_model.proofs.Points.{group_point_is_greatest as the_law}
use Rattle.volume_model.proofs.laws.group_point_is_greatest.Goals as goal

pub returns : goal.returns
returns c = the_law
