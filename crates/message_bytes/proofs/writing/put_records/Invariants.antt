use Rattle.std.proofs.Common.{◌≡◌, ◌++◌, length}
use Rattle.redo_record.specs.Common.{left_of, records_of}
use Rattle.message_bytes.specs.Spelling.{records_spelled}
use Rattle.message_bytes.proofs.writing.put_records.Given as goal

abbrev pub invariant-loop-packet : goal.invariant-loop-packet
invariant-loop-packet l = l.out.items ++ records_spelled (left_of l.left) ≡ l.initial.out.items ++ records_spelled (records_of l.set)

abbrev pub decreases-loop-packet : goal.decreases-loop-packet
decreases-loop-packet l = length (left_of l.left)
