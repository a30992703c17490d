use Rattle.cert_search.proofs.Pairs.{clashed}
use Rattle.cert_search.proofs.plain.clashes.Goals as goal

pub loop-preserved : goal.loop-preserved
loop-preserved g c = clashed c.loop.then.items c.push.new.self.items c.args.pairs.now c.loop.index c.loop-test.true c.in_ok-push.ensures.items c.loop.invariant
