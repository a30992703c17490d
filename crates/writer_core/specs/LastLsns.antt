-- The last LSNs of groups and blocks.
use Rattle.std.specs.Prelude.{◌≡◌, ◌≢◌, ℕ, ◌<◌, ◌≤◌, List, length, take, slice_index}
use Rattle.volume_model.specs.Common.{Redo, last_of_group, last_of_block}
use Rattle.redo_record.specs.declared.shared_record.SharedRecord.{SharedRecord}
use Rattle.writer_core.specs.Logs.{log_of}
use Rattle.writer_core.specs.BlockLsns.{kept_in}
use Rattle.writer_core.specs.declared.last_lsns.LastLsns.{LastLsns}

-- the LSN that is known of a group, 0 if none is
abbrev pub kept_of_group : LastLsns → ℕ → ℕ
kept_of_group last_lsns group = slice_index last_lsns.groups group

-- the LSN that is known of a block of a group, 0 if none is
abbrev pub kept_of_block : LastLsns → ℕ → ℕ → ℕ
kept_of_block last_lsns group block = kept_in last_lsns.blocks group block

-- a known LSN is the last one; if none is known, the last one is that of the records that weren't read
abbrev pub IsLast : ℕ → ℕ → ℕ → Type 0
IsLast known last unread = (known ≢ 0 → known ≡ last) × (known ≡ 0 → last ≡ unread)

-- what is known of a log is right, if all but these older records were read
pub record AreLasts (last_lsns : LastLsns) (log older : List Redo) : Type 0 where
  pub of_group : (group : ℕ) → group < 16 → IsLast (kept_of_group last_lsns group) (last_of_group group log)
      (last_of_group group older)
  pub of_block : (group block : ℕ) → IsLast (kept_of_block last_lsns group block) (last_of_block group block log)
      (last_of_block group block older)

-- the same for a log of which the first records weren't read
pub record AreLastsOf (last_lsns : LastLsns) (records : List SharedRecord) : Type 0 where
  pub within : last_lsns.unread ≤ length records
  pub lasts : AreLasts last_lsns (log_of records) (log_of (take last_lsns.unread records))
