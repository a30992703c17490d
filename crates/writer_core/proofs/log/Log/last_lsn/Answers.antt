use Rattle.std.proofs.Common.{arith}
use Rattle.writer_core.proofs.Joined.{last-behind, last-of_set}
use Rattle.writer_core.proofs.log.Log.last_lsn.Goals as goal
use Rattle.std.proofs.lemmas.Grind.{common_steps}

pub returns-in-Some : goal.returns-in-Some
returns-in-Some c = grind (arith, common_steps, c.lsn.ensures, c.in-Some.ensures.item.3.0, c.in-Some.ensures.item.1, c.deref.ensures.value, last-behind)

pub returns-in-Some-last : goal.returns-in-Some-last
returns-in-Some-last c = grind (arith, common_steps, c.deref.ensures.value, c.in-None.ensures.item.3, c.lsn-in-Some-last.ensures, c.in-Some-last.ensures, last-of_set)

pub returns-in-None-last : goal.returns-in-None-last
returns-in-None-last c = grind (arith, common_steps)
