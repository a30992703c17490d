use Rattle.std.proofs.Common.{◌≡◌, List, length}
use Rattle.volume_model.specs.Common.{added, Redo}
use Rattle.redo_record.specs.Common.{left_of}
use Rattle.writer_core.specs.Logs.{log_of_set}
use Rattle.recovery.specs.CutReader.{IsCutOf}
use Rattle.recovery.proofs.cut_reader.shared_cut_of.Given as goal

abbrev pub invariant-loop-packet : goal.invariant-loop-packet
invariant-loop-packet l = (older : List Redo) × (added (left_of l.left) older ≡ log_of_set l.set) × IsCutOf l.reader older

abbrev pub decreases-loop-packet : goal.decreases-loop-packet
decreases-loop-packet l = length (left_of l.left)
