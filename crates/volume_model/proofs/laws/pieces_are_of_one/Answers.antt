use Rattle.volume_model.proofs.PieceLaws.{pieces_are_of_one as the_law}
use Rattle.volume_model.proofs.laws.pieces_are_of_one.Goals as goal

pub returns : goal.returns
returns c = the_law
