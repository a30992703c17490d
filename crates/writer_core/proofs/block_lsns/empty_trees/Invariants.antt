use Rattle.std.proofs.Common.{◌≡◌, ◌≤◌, ◌-◌, ℕ, length, vec_capacity, slice_get}
use Rattle.writer_core.specs.declared.block_lsns.TheConstants.{TREES}
use Rattle.writer_core.specs.Kept.{lsn_under}
use Rattle.writer_core.proofs.block_lsns.empty_trees.Given as goal

-- so many trees at most, none of which has a block
abbrev pub invariant-loop-alloc : goal.invariant-loop-alloc
invariant-loop-alloc l = record {
  counted : length l.trees.items ≤ TREES;
  roomy : TREES ≤ vec_capacity l.trees;
  empty : (i q b : ℕ) → lsn_under (slice_get l.trees.items i) q b ≡ 0;
}

abbrev pub decreases-loop-alloc : goal.decreases-loop-alloc
decreases-loop-alloc l = TREES - length l.trees.items
