use Rattle.std.proofs.Common.{◌-◌, length}
use Rattle.redo_record.specs.Common.{index_of, IsPlaceIn, runs_of, records_of}
use Rattle.volume_tests.proofs.sorted.count_of.Given as goal

abbrev pub invariant-loop-packet : goal.invariant-loop-packet
invariant-loop-packet l = IsPlaceIn (runs_of l.runs) l.place

abbrev pub decreases-loop-packet : goal.decreases-loop-packet
decreases-loop-packet l = length (records_of l.runs) - index_of (runs_of l.runs) l.place
