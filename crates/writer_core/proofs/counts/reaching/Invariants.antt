use Rattle.std.proofs.Common.{◌≡◌, ℕ, drop, ◌||◌}
use Rattle.std.specs.FinSet.{contains}
use Rattle.volume_model.specs.Common.{reaching}
use Rattle.writer_core.specs.Counts.{counts_of}
use Rattle.writer_core.proofs.counts.reaching.Given as goal

abbrev pub invariant-loop-count : goal.invariant-loop-count
invariant-loop-count l = (x : ℕ) → (contains l.members x || reaching (counts_of (drop l.count-index l.counts)) l.limit x) ≡ reaching (counts_of l.counts) l.limit x
