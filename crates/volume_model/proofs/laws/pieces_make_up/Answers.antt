use Rattle.volume_model.proofs.PieceLaws.{pieces_make_up as the_law}
use Rattle.volume_model.proofs.laws.pieces_make_up.Goals as goal

pub returns : goal.returns
returns c = the_law
