use Rattle.volume_model.proofs.NewGroups.{new_groups_are_empty as the_law}
use Rattle.volume_model.proofs.laws.new_groups_are_empty.Goals as goal

pub returns : goal.returns
returns c = the_law
