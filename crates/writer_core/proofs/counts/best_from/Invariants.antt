use Rattle.std.proofs.Common.{◌≡◌, ℕ, ◌<◌, ◌^◌, false, drop, max}
use Rattle.quorum_expr.specs.Common.{formula_of}
use Rattle.volume_model.specs.Common.{sat, best, reaching}
use Rattle.writer_core.specs.Counts.{counts_of}
use Rattle.writer_core.proofs.counts.best_from.Given as goal

abbrev pub invariant-loop-count : goal.invariant-loop-count
invariant-loop-count l = record {
  greatest : max l.best (best (formula_of l.write) (counts_of l.counts) (counts_of (drop l.count-index l.counts))) ≡ max l.least (best (formula_of l.write) (counts_of l.counts) (counts_of l.counts));
  none_above : (n : ℕ) → l.most < n → n < 2 ^ 64 → sat (formula_of l.write) (reaching (counts_of l.counts) n) ≡ false;
}
