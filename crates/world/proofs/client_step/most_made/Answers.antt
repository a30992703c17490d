use Rattle.world.proofs.client_step.most_made.Goals as goal
use Rattle.std.proofs.lemmas.Grind.{common_steps}
use Rattle.std.proofs.Common.{arith}

pub returns-in-Take : goal.returns-in-Take
returns-in-Take c = grind (arith, common_steps)

pub returns-in-Cut : goal.returns-in-Cut
returns-in-Cut c = grind (arith, common_steps)

pub returns-in-Open : goal.returns-in-Open
returns-in-Open c = grind (arith, common_steps)

pub returns-in-Issue : goal.returns-in-Issue
returns-in-Issue c = grind (arith, common_steps)
