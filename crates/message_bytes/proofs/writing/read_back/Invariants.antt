use Rattle.std.proofs.Common.{length}
use Rattle.redo_record.specs.Common.{left_of, records_of}
use Rattle.message_bytes.specs.Spelling.{AreReadBack}
use Rattle.message_bytes.proofs.writing.read_back.Given as goal

abbrev pub invariant-loop-packet : goal.invariant-loop-packet
invariant-loop-packet l = AreReadBack (left_of l.left) → AreReadBack (records_of l.set)

abbrev pub decreases-loop-packet : goal.decreases-loop-packet
decreases-loop-packet l = length (left_of l.left)
