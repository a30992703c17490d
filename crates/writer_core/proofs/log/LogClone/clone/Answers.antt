use Rattle.writer_core.proofs.Joined.{joined-copied, length-same}
use Rattle.writer_core.proofs.log.LogClone.clone.Goals as goal
use Rattle.std.proofs.lemmas.Grind.{common_steps}
use Rattle.std.proofs.Common.{arith}

pub invariant_of-result : goal.invariant_of-result
invariant_of-result c = grind (arith, common_steps, c.in_ok-clone.ensures.cases, c.in_ok-clone-2.ensures.cases.0, length-same, joined-copied)

pub returns : goal.returns
returns c = grind (arith, common_steps, c.in_ok-clone.ensures.cases, c.in_ok-clone-2.ensures.cases.0, joined-copied)
