use Rattle.volume_model.proofs.Live.{records_live as the_law}
use Rattle.volume_model.proofs.laws.records_live.Goals as goal

pub returns : goal.returns
returns c = the_law
