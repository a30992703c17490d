-- Each group is raised.
use Rattle.volume_model.proofs.Groups.{group_of-raised, length-raised}
use Rattle.volume_model.specs.Common.{EachGroupIsRaised}
use Rattle.std.proofs.lemmas.Grind.{common_steps}
use Rattle.std.proofs.Common.{arith}

pub each_group_is_raised : EachGroupIsRaised
each_group_is_raised = grind (arith, common_steps, length-raised, group_of-raised)
