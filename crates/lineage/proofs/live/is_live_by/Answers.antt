use Rattle.lineage.proofs.live.is_live_by.Goals as goal
use Rattle.std.proofs.lemmas.Grind.{common_steps}
use Rattle.std.proofs.Common.{arith}

pub loop-walk-preserved : goal.loop-walk-preserved
loop-walk-preserved c = grind (arith, common_steps)

pub returns-then-lsn-walk-clause-live : goal.returns-then-lsn-walk-clause-live
returns-then-lsn-walk-clause-live c = grind (arith, common_steps)

pub returns-else-lsn-walk-clause-live : goal.returns-else-lsn-walk-clause-live
returns-else-lsn-walk-clause-live c = grind (arith, common_steps)
