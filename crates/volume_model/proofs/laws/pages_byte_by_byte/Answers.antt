use Rattle.volume_model.proofs.PageBytes.{pages_byte_by_byte as the_law}
use Rattle.volume_model.proofs.laws.pages_byte_by_byte.Goals as goal

pub returns : goal.returns
returns c = the_law
