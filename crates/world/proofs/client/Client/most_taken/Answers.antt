use Rattle.std.proofs.Common.{arith}
use Rattle.world.proofs.client.Client.most_taken.Goals as goal
use Rattle.std.proofs.lemmas.Grind.{common_steps}

pub returns-in-Unborn : goal.returns-in-Unborn
returns-in-Unborn c = grind (arith, common_steps)

pub returns-in-Recovery : goal.returns-in-Recovery
returns-in-Recovery c = grind (arith, common_steps)

pub returns-in-Writer : goal.returns-in-Writer
returns-in-Writer c = grind (arith, common_steps)
