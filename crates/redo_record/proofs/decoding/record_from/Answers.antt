use Rattle.std.proofs.Common.{arith}
use Rattle.redo_record.proofs.decoding.record_from.Goals as goal
use Rattle.std.proofs.lemmas.Grind.{common_steps}

pub invariant_of-result : goal.invariant_of-result
invariant_of-result c = grind (arith, common_steps)
