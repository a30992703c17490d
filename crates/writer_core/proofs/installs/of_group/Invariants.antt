use Rattle.std.proofs.Common.{◌≡◌, List, length}
use Rattle.volume_model.specs.Common.{added, Redo, of_group}
use Rattle.redo_record.specs.Common.{left_of, records_of}
use Rattle.writer_core.specs.Logs.{log_of_set}
use Rattle.writer_core.proofs.installs.of_group.Given as goal

abbrev pub invariant-loop-packet : goal.invariant-loop-packet
invariant-loop-packet l = (older : List Redo) × (added (left_of l.left) older ≡ log_of_set l.log) × (records_of l.set ≡ of_group l.group older)

abbrev pub decreases-loop-packet : goal.decreases-loop-packet
decreases-loop-packet l = length (left_of l.left)
