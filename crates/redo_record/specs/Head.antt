use Rattle.std.specs.Prelude.{ℕ, ◌+◌, ◌^◌, Bool, ◌&&◌, ◌==◌, nat_lt, nat_le, List, take, drop, slice_index}
use Rattle.std.specs.Int.{Width, w16, w32, w64, byte_len, from_be_bytes}
use Rattle.volume_model.specs.Common.{Redo}
use Rattle.redo_record.specs.declared.head.Head.{Head}

-- the big-endian number at a place of the bytes
abbrev pub number_at : Width → ℕ → List ℕ → ℕ
number_at w at bytes = from_be_bytes w (take (byte_len w) (drop at bytes))

-- the numbers at the beginning of the bytes
abbrev pub head_in : List ℕ → Head
head_in bytes = record {
  lsn = number_at w64 0 bytes;
  volume_epoch = number_at w32 8 bytes;
  prev_volume = number_at w64 12 bytes;
  prev_group = number_at w64 20 bytes;
  prev_block = number_at w64 28 bytes;
  group = slice_index bytes 36;
  block = number_at w32 37 bytes;
  offset = number_at w16 41 bytes;
  point = slice_index bytes 43;
  length = slice_index bytes 44;
}

-- the numbers are allowed in a record
abbrev pub is_allowed : Head → Bool
is_allowed h =
    nat_le 1 h.lsn && nat_le h.lsn (2 ^ 62) && nat_le 1 h.volume_epoch && nat_lt h.prev_volume h.lsn && nat_le
    h.prev_group h.prev_volume
    && nat_le h.prev_block h.prev_group && nat_lt h.group 16 && nat_le (h.offset + h.length) 512 && nat_le h.point 1 &&
    nat_le 1 h.length && nat_le h.length 64

-- the record with these numbers, which writes these bytes
abbrev pub redo_from : Head → List ℕ → Redo
redo_from h bytes = record {
  lsn = h.lsn;
  volume = h.volume_epoch;
  prev_volume = h.prev_volume;
  prev_group = h.prev_group;
  prev_block = h.prev_block;
  group = h.group;
  block = h.block;
  offset = h.offset;
  bytes = bytes;
  point = h.point == 1;
}

-- the record that the bytes encode, without a check
abbrev pub redo_in : List ℕ → Redo
redo_in bytes = redo_from (head_in bytes) (drop 45 bytes)
