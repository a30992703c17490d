use Rattle.std.proofs.Common.{arith}
use Rattle.redo_record.proofs.record_set.RecordSetClone.clone.Goals as goal
use Rattle.std.proofs.lemmas.Grind.{common_steps}

pub returns : goal.returns
returns c = grind (arith, common_steps)
