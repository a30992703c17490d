use Rattle.std.proofs.Common.{◌≡◌, ◌==◌, drop}
use Rattle.volume_model.specs.Common.{every}
use Rattle.redo_record.specs.Joined.{joined}
use Rattle.redo_record.specs.RecordSet.{records_of}
use Rattle.redo_record.specs.Run.{runs_in}
use Rattle.redo_record.proofs.record_set.RecordSet.is_of.Given as goal

abbrev pub invariant-loop-run : goal.invariant-loop-run
invariant-loop-run l = every (λ r. r.group == l.group) (joined (runs_in (drop l.run-index l.run-items))) ≡ every (λ r. r.group == l.group) (records_of l.self)
