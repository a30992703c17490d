use Rattle.cert_search.proofs.Tables.{marks_more}
use Rattle.cert_search.proofs.table.close_for.Goals as goal

pub loop-preserved : goal.loop-preserved
loop-preserved c = marks_more c.loop.counter c.args.own.now c.loop.own c.close.new.self c.loop.invariant c.in_ok-close.ensures
