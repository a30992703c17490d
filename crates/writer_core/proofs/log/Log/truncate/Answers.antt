use Rattle.writer_core.proofs.Joined.{taken-behind, taken-grows}
use Rattle.writer_core.proofs.log.Log.truncate.Goals as goal
use Rattle.std.proofs.lemmas.Grind.{common_steps}
use Rattle.std.proofs.Common.{arith}

pub invariant_of-self : goal.invariant_of-self
invariant_of-self c = grind (arith, common_steps, c.truncate.ensures.items, c.requires, taken-behind, taken-grows)

pub returns-clause-packets : goal.returns-clause-packets
returns-clause-packets c = grind (arith, common_steps, c.truncate.ensures.items, c.requires, taken-behind)
