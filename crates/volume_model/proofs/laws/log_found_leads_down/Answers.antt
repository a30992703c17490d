use Rattle.volume_model.proofs.Leading.{log_found_leads_down as the_law}
use Rattle.volume_model.proofs.laws.log_found_leads_down.Goals as goal

pub returns : goal.returns
returns c = the_law
