use Rattle.std.proofs.Common.{◌≡◌}
use Rattle.redo_record.specs.Run.{runs_in}
use Rattle.redo_record.proofs.record_set.RecordSet.share.Given as goal

abbrev pub invariant-loop-index : goal.invariant-loop-index
invariant-loop-index l = runs_in l.self.runs.items ≡ runs_in l.initial.self.runs.items
