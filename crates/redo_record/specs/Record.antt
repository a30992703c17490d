use Rattle.volume_model.specs.Common.{Redo}
use Rattle.redo_record.specs.declared.«record».Record.{Record}
use Rattle.redo_record.specs.Payload.{payload_bytes}

-- the record of the model for a record
abbrev pub redo_of : Record → Redo
redo_of r = record {
  lsn = r.lsn;
  volume = r.volume_epoch;
  prev_volume = r.prev_volume;
  prev_group = r.prev_group;
  prev_block = r.prev_block;
  group = r.group;
  block = r.block;
  offset = r.offset;
  bytes = payload_bytes r.bytes;
  point = r.point;
}
