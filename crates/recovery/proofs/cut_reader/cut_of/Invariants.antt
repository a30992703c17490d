use Rattle.std.proofs.Common.{take}
use Rattle.recovery.specs.CutReader.{IsCutOf, log_of_records}
use Rattle.recovery.proofs.cut_reader.cut_of.Given as goal

abbrev pub invariant-loop-record : goal.invariant-loop-record
invariant-loop-record l = IsCutOf l.reader (log_of_records (take l.record-index l.records))
