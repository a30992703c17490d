use Rattle.writer_core.proofs.Copied.{copied}
use Rattle.world.proofs.event.EventClone.clone.Goals as goal
use Rattle.std.proofs.lemmas.Grind.{common_steps}
use Rattle.std.proofs.Common.{arith}

pub returns-in_ok-clone-in-Issue : goal.returns-in_ok-clone-in-Issue
returns-in_ok-clone-in-Issue c = grind (arith, common_steps, c.in_ok-clone-in-Issue.ensures.cases.0, c.in-Issue.is, copied)
