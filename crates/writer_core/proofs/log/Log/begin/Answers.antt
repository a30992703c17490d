use Rattle.std.proofs.Common.{append-nil}
use Rattle.writer_core.proofs.Joined.{length-set, log_of-set}
use Rattle.writer_core.proofs.log.Log.begin.Goals as goal
use Rattle.std.proofs.lemmas.Grind.{common_steps}
use Rattle.std.proofs.Common.{arith}

pub invariant_of-result : goal.invariant_of-result
invariant_of-result c = grind (arith, common_steps, c.new.ensures.items, c.len-begun.ensures, c.requires, append-nil, length-set, log_of-set)
