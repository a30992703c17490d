use Rattle.volume_model.proofs.Found.{found_is_reported as the_law}
use Rattle.volume_model.proofs.laws.found_is_reported.Goals as goal

pub returns : goal.returns
returns c = the_law
