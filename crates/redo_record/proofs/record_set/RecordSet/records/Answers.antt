use Rattle.std.proofs.Common.{◌∙◌, map, ap, sym}
use Rattle.std.specs.List.{flat_map}
use Rattle.redo_record.specs.Run.{run_packets}
use Rattle.redo_record.specs.SharedRecord.{shared_redo}
use Rattle.redo_record.proofs.RunLists.{joined-shown}
use Rattle.redo_record.proofs.record_set.RecordSet.records.Goals as goal

pub returns-clause-records : goal.returns-clause-records
returns-clause-records c = ap (λ runs. map shared_redo (flat_map run_packets runs)) c.deref.ensures.value ∙ sym (joined-shown c.args.self.now.runs.items)
