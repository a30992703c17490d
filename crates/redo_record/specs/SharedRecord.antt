use Rattle.std.specs.Arc.{arc_value}
use Rattle.volume_model.specs.Common.{Redo}
use Rattle.redo_record.specs.declared.shared_record.SharedRecord.{SharedRecord}
use Rattle.redo_record.specs.Record.{redo_of}

-- the record of the model for a shared record
unfoldable pub shared_redo : SharedRecord → Redo
shared_redo packet = redo_of (arc_value packet.shared)
