use Rattle.std.proofs.Common.{◌≡◌, ℕ, ◌++◌, take, drop}
use Rattle.volume_model.specs.Common.{with_count}
use Rattle.writer_core.specs.Counts.{counts_of}
use Rattle.writer_core.proofs.counts.place_of.Given as goal

abbrev pub invariant-loop-place : goal.invariant-loop-place
invariant-loop-place l = (reached : ℕ) → with_count l.sender reached (counts_of l.counts) ≡ counts_of (take l.place l.counts) ++ with_count l.sender reached (counts_of (drop l.place l.counts))
