use Rattle.std.proofs.Common.{arith}
use Rattle.redo_record.proofs.Again.{decoded-spelled}
use Rattle.redo_record.proofs.KeptRanges.{redo_of-ranges}
use Rattle.message_bytes.proofs.writing.reads_back.Goals as goal
use Rattle.std.proofs.lemmas.Grind.{common_steps}

pub returns : goal.returns
returns c = grind (arith, common_steps, c.as_slice-written.ensures.value, c.as_slice-written.ensures.room, decoded-spelled, redo_of-ranges)
