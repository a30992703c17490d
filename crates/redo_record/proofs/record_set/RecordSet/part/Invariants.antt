use Rattle.std.proofs.Common.{◌≡◌, ◌++◌, take, drop}
use Rattle.redo_record.specs.Joined.{joined}
use Rattle.redo_record.specs.RecordSet.{records_of}
use Rattle.redo_record.specs.Run.{runs_in, AreFilled}
use Rattle.redo_record.proofs.record_set.RecordSet.part.Given as goal

abbrev pub invariant-loop-run : goal.invariant-loop-run
invariant-loop-run l = record {
  all : joined (runs_in l.runs.items) ++ take l.left (drop l.skip (joined (runs_in (drop l.run-index l.run-items)))) ≡ take l.fn.len (drop l.fn.from (records_of l.self));
  filled : AreFilled (runs_in l.runs.items);
}
