-- A program's log grows at its end; the model keeps it newest first.
use Rattle.std.specs.Prelude.{Bool, true, ◌&&◌, nat_lt, List, [], ◌∷◌, map}
use Rattle.volume_model.specs.Common.{added, Redo, last_lsn}
use Rattle.redo_record.specs.declared.shared_record.SharedRecord.{SharedRecord}
use Rattle.redo_record.specs.declared.record_set.RecordSet.{RecordSet}
use Rattle.redo_record.specs.Common.{shared_redo, records_of}

-- the log of the model for a list of packets
abbrev pub log_of : List SharedRecord → List Redo
log_of packets = added (map shared_redo packets) []

-- the log of the model for a set of records
abbrev pub log_of_set : RecordSet → List Redo
log_of_set set = added (records_of set) []

-- each record's LSN is above those of the records before it
abbrev pub is_growing : List Redo → Bool
is_growing [] = true
is_growing (r ∷ older) = nat_lt (last_lsn older) r.lsn && is_growing older
