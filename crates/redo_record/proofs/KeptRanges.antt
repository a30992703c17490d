-- What each record keeps, in the words of the model.
use Rattle.std.specs.Arc.{arc_value}
use Rattle.redo_record.specs.declared.«record».Record.{Record}
use Rattle.redo_record.specs.declared.shared_record.SharedRecord.{SharedRecord}
use Rattle.redo_record.specs.SharedRecord.{shared_redo}
use Rattle.redo_record.specs.Ranges.{HasRanges}
use Rattle.redo_record.specs.Record.{redo_of}
use Rattle.std.proofs.lemmas.Grind.{common_steps}
use Rattle.std.proofs.Common.{arith}

-- a record keeps its ranges
pub redo_of-ranges : (r : Record) → HasRanges (redo_of r)
redo_of-ranges r = grind (arith, common_steps)

-- a packet's record keeps its ranges
pub shared_redo-ranges : (packet : SharedRecord) → HasRanges (shared_redo packet)
unfolding shared_redo
shared_redo-ranges packet = redo_of-ranges (arc_value packet.shared)
