use Rattle.std.proofs.Common.{length, ap, arith}
use Rattle.cert_search.proofs.Ended.{same_none, same_twice}
use Rattle.cert_search.proofs.working.work.Goals as goal

pub loop-init : goal.loop-init
loop-init g c = let none = ap length c.new-founds.ensures.items in (same_none c.args.hand, tt, tt, λ k d lt. absurd (omega (arith, lt, none)))

pub loop-preserved : goal.loop-preserved
loop-preserved g c = (same_twice c.args.hand c.loop.hand c.take.new.self c.loop.invariant.0 c.take.ensures.deal, tt, tt, c.add.ensures)
