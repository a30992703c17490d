use Rattle.std.proofs.Common.{◌≡◌, ◌≤◌, ℕ, length, slice_index, take}
use Rattle.writer_core.proofs.inline_bytes.InlineBytes.new.Given as goal

abbrev pub invariant-loop-at : goal.invariant-loop-at
invariant-loop-at l = record {
  size : length l.place ≡ 7;
  put : take (length (take l.at l.bytes)) l.place ≡ take l.at l.bytes;
  cleared : (k : ℕ) → length l.bytes ≤ k → slice_index l.place k ≡ 0;
}
