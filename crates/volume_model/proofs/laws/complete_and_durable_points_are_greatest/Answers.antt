use Rattle.volume_model.proofs.Points.{complete_and_durable_points_are_greatest as the_law}
use Rattle.volume_model.proofs.laws.complete_and_durable_points_are_greatest.Goals as goal

pub returns : goal.returns
returns c = the_law
