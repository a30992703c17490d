use Rattle.writer_core.specs.LastLsns.{AreLastsOf}
use Rattle.writer_core.specs.Log.{packets_in}
use Rattle.writer_core.proofs.last_lsns.LastLsns.of_group.Given as goal

abbrev pub invariant-loop-self : goal.invariant-loop-self
invariant-loop-self l = AreLastsOf l.self (packets_in l.log)

abbrev pub decreases-loop-self : goal.decreases-loop-self
decreases-loop-self l = l.self.unread
