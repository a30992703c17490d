use Rattle.world.proofs.node_step.deliver_any.Goals as goal
use Rattle.std.proofs.lemmas.Grind.{common_steps}
use Rattle.std.proofs.Common.{arith}

pub returns-clause-moves : goal.returns-clause-moves
returns-clause-moves c = grind (arith, common_steps)
