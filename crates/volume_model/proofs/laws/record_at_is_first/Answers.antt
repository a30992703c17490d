use Rattle.volume_model.proofs.Leading.{record_at_is_first as the_law}
use Rattle.volume_model.proofs.laws.record_at_is_first.Goals as goal

pub returns : goal.returns
returns c = the_law
