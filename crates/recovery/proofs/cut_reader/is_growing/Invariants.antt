use Rattle.std.proofs.Common.{◌≡◌, take}
use Rattle.volume_model.specs.Common.{last_lsn}
use Rattle.writer_core.specs.Logs.{is_growing}
use Rattle.recovery.specs.CutReader.{log_of_records}
use Rattle.recovery.proofs.cut_reader.is_growing.Given as goal

abbrev pub invariant-loop-record : goal.invariant-loop-record
invariant-loop-record l = record {
  growing : l.growing ≡ is_growing (log_of_records (take l.record-index l.records));
  last : l.last ≡ last_lsn (log_of_records (take l.record-index l.records));
}
