use Rattle.volume_model.proofs.PieceLaws.{pieces_unite as the_law}
use Rattle.volume_model.proofs.laws.pieces_unite.Goals as goal

pub returns : goal.returns
returns c = the_law
