use Rattle.std.specs.Prelude.{◌+◌, ◌^◌, ◌<◌, ◌≤◌, length}
use Rattle.volume_model.specs.Common.{Redo}
use Rattle.redo_record.specs.Payload.{HasRoom}

-- the ranges of a record's fields that its types don't give
pub record HasRanges (r : Redo) : Type 0 where
  pub lsn_positive : 1 ≤ r.lsn
  pub lsn_in_range : r.lsn ≤ 2 ^ 62
  pub volume_positive : 1 ≤ r.volume
  pub prev_volume_before : r.prev_volume < r.lsn
  pub prev_group_in_volume : r.prev_group ≤ r.prev_volume
  pub prev_block_in_group : r.prev_block ≤ r.prev_group
  pub group_in_range : r.group < 16
  pub bytes_within : r.offset + length r.bytes ≤ 512

-- the ranges of all fields of a record
pub record IsSpellable (r : Redo) : Type 0 where
  pub ranges : HasRanges r
  pub room : HasRoom (length r.bytes)
  pub volume : r.volume < 2 ^ 32
  pub block : r.block < 2 ^ 32
