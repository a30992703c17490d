use Rattle.std.proofs.Common.{length}
use Rattle.redo_record.specs.Common.{left_of}
use Rattle.volume_tests.proofs.sorted.is_sorted.Given as goal

abbrev pub decreases-loop-next : goal.decreases-loop-next
decreases-loop-next l = length (left_of l.records)
