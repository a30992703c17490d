use Rattle.volume_model.proofs.PageBytes.{nodes_records_in_order as the_law}
use Rattle.volume_model.proofs.laws.nodes_records_in_order.Goals as goal

pub returns : goal.returns
returns c = the_law
