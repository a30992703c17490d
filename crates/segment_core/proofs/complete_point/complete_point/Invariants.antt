use Rattle.std.proofs.Common.{length}
use Rattle.redo_record.specs.Common.{records_of, left_of}
use Rattle.segment_core.proofs.Counting.{IsCounted}
use Rattle.segment_core.proofs.complete_point.complete_point.Given as goal

abbrev pub invariant-loop-packet : goal.invariant-loop-packet
invariant-loop-packet l = IsCounted (records_of l.set) (left_of l.left) (records_of l.grounded) l.point

abbrev pub decreases-loop-packet : goal.decreases-loop-packet
decreases-loop-packet l = length (left_of l.left)
