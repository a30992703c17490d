use Rattle.writer_core.proofs.Copied.{copied}
use Rattle.world.proofs.event.Event.of_client.Goals as goal
use Rattle.std.proofs.lemmas.Grind.{common_steps}
use Rattle.std.proofs.Common.{arith}

pub returns-in_ok-to_vec-in-Issue : goal.returns-in_ok-to_vec-in-Issue
returns-in_ok-to_vec-in-Issue c = grind (arith, common_steps, c.in-Issue.is, copied)
