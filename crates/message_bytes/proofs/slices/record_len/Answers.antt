use Rattle.std.proofs.Common.{arith}
use Rattle.redo_record.proofs.Again.{length-spelled}
use Rattle.message_bytes.proofs.slices.record_len.Goals as goal
use Rattle.std.proofs.lemmas.Grind.{common_steps}

pub returns-clause-is : goal.returns-clause-is
returns-clause-is c = grind (arith, common_steps, c.record.ensures, c.as_slice.ensures.value, length-spelled)

pub returns-clause-few : goal.returns-clause-few
returns-clause-few c = omega (arith, c.as_slice.ensures.room)
