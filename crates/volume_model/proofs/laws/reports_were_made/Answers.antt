use Rattle.volume_model.proofs.Reported.{reports_were_made as the_law}
use Rattle.volume_model.proofs.laws.reports_were_made.Goals as goal

pub returns : goal.returns
returns c = the_law
