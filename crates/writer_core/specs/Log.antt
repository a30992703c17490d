-- A program's log as one of the model.
use Rattle.std.specs.Prelude.{ℕ, List, ◌++◌, ◌-◌, vec_len, vec_capacity}
use Rattle.volume_model.specs.Common.{Redo}
use Rattle.redo_record.specs.declared.shared_record.SharedRecord.{SharedRecord}
use Rattle.redo_record.specs.declared.record_set.RecordSet.{RecordSet}
use Rattle.redo_record.specs.Common.{packets_of, packets_left}
use Rattle.writer_core.specs.Logs.{log_of}
use Rattle.writer_core.specs.declared.log.Log.{Log}
use Rattle.writer_core.specs.declared.log.LogRecords.{LogRecords}

-- the records with which the log began
abbrev pub found_of : Log → RecordSet
found_of log = log.found

-- the packets of a log: those with which it began, then those that were issued
abbrev pub packets_in : Log → List SharedRecord
packets_in log = packets_of log.found ++ log.issued.items

-- the log of the model for a log
abbrev pub log_in : Log → List Redo
log_in log = log_of (packets_in log)

-- the number of records for which there is room
abbrev pub room_in : Log → ℕ
room_in log = vec_capacity log.issued - vec_len log.issued

-- the packets of a log that weren't read yet
abbrev pub log_left : LogRecords → List SharedRecord
log_left left = packets_left left.found ++ left.issued.now
