use Rattle.std.proofs.Common.{length}
use Rattle.redo_record.specs.Common.{left_of}
use Rattle.volume_tests.proofs.segments.steps.last_of.Given as goal

abbrev pub decreases-loop-packet : goal.decreases-loop-packet
decreases-loop-packet l = length (left_of l.left)
