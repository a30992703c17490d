use Rattle.std.proofs.Common.{Ok}
use Rattle.hydration.proofs.Bringing.{finished-complete}
use Rattle.hydration.proofs.hydration.Hydration.finish.Goals as goal
use Rattle.std.proofs.lemmas.Grind.{common_steps}
use Rattle.std.proofs.Common.{arith}

pub returns-clause-state : goal.returns-clause-state
returns-clause-state c = grind (arith, common_steps, c.senders.ensures, c.holds.ensures, c.if-not-holds.false, c.in_ok-lineage.ensures, c.as_slice-copies.ensures.value, c.in_ok-records.ensures, c.last_epoch.ensures, Ok, finished-complete)
