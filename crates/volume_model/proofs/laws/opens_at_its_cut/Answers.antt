use Rattle.volume_model.proofs.Opens.{opens_at_its_cut as the_law}
use Rattle.volume_model.proofs.laws.opens_at_its_cut.Goals as goal

pub returns : goal.returns
returns c = the_law
