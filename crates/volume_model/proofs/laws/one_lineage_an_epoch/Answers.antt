use Rattle.volume_model.proofs.Carried.{one_lineage_an_epoch as the_law}
use Rattle.volume_model.proofs.laws.one_lineage_an_epoch.Goals as goal

pub returns : goal.returns
returns c = the_law
