use Rattle.std.proofs.Common.{ℕ, max, arith, Fits, w64}
use Rattle.writer_core.proofs.Counting.{none-above, best-goes-on, judged-greatest, judged-none, judged-low}
use Rattle.writer_core.proofs.counts.best_from.Goals as goal
use Rattle.std.proofs.lemmas.Grind.{common_steps}

pub loop-count-preserved : goal.loop-count-preserved
loop-count-preserved c = grind (arith, common_steps, c.loop-count.invariant, c.loop-count-test.true, c.count-item.is, c.if-best-reached.branch, max, ℕ, best-goes-on, judged-greatest, judged-none, none-above, Fits, w64, judged-low)
