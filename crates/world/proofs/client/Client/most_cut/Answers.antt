use Rattle.std.proofs.Common.{arith}
use Rattle.world.proofs.client.Client.most_cut.Goals as goal
use Rattle.std.proofs.lemmas.Grind.{common_steps}

pub returns-in-Recovery : goal.returns-in-Recovery
returns-in-Recovery c = grind (arith, common_steps)
