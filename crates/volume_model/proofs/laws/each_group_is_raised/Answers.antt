use Rattle.volume_model.proofs.Raised.{each_group_is_raised as the_law}
use Rattle.volume_model.proofs.laws.each_group_is_raised.Goals as goal

pub returns : goal.returns
returns c = the_law
