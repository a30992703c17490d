use Rattle.std.proofs.Common.{◌≡◌, length}
use Rattle.redo_record.specs.Records.{packets_left}
use Rattle.redo_record.proofs.records.Records.next.Given as goal

abbrev pub invariant-loop-run : goal.invariant-loop-run
invariant-loop-run l = packets_left l.self ≡ packets_left l.initial.self

abbrev pub decreases-loop-run : goal.decreases-loop-run
decreases-loop-run l = length l.self.later.now
