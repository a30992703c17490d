use Rattle.volume_model.proofs.Found.{newest_is_newest as the_law}
use Rattle.volume_model.proofs.laws.newest_is_newest.Goals as goal

pub returns : goal.returns
returns c = the_law
