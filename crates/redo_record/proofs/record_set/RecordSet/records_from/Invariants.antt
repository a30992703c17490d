use Rattle.std.proofs.Common.{◌≡◌, drop}
use Rattle.std.specs.List.{flat_map}
use Rattle.redo_record.specs.RecordSet.{packets_of}
use Rattle.redo_record.specs.Run.{run_packets}
use Rattle.redo_record.proofs.record_set.RecordSet.records_from.Given as goal

abbrev pub invariant-loop-index : goal.invariant-loop-index
invariant-loop-index l = drop l.left (flat_map run_packets (drop l.index l.self.runs.items)) ≡ drop l.place (packets_of l.self)
