use Rattle.redo_record.specs.Records.{left_of}
use Rattle.redo_record.specs.RecordSet.{records_of}
use Rattle.redo_record.proofs.RunLists.{first-read}
use Rattle.redo_record.proofs.record_set.RecordSet.first.Goals as goal

pub returns : goal.returns
returns c = first-read c.next.result (left_of c.records.result) (left_of c.next.new.self) (records_of c.args.self.now) c.records.ensures.records c.next.ensures.both
