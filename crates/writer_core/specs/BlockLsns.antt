-- A map from blocks and their groups to LSNs.
use Rattle.std.specs.Prelude.{ℕ, ◌%◌, slice_get}
use Rattle.writer_core.specs.Kept.{lsn_under}
use Rattle.writer_core.specs.declared.block_lsns.BlockLsns.{BlockLsns}
use Rattle.writer_core.specs.declared.block_lsns.TheConstants.{TREES}

-- the LSN of a block of a group, in the tree that the block's number selects; 0 if there is none
abbrev pub kept_in : BlockLsns → ℕ → ℕ → ℕ
kept_in blocks group block = lsn_under (slice_get blocks.trees.items (block % TREES)) group block
