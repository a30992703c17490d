use Rattle.volume_model.proofs.Parts.{parts_of_logs as the_law}
use Rattle.volume_model.proofs.laws.parts_of_logs.Goals as goal

pub returns : goal.returns
returns c = the_law
