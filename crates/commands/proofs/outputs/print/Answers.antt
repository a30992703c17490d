use Rattle.std.proofs.Common.{inr}
use Rattle.commands.proofs.outputs.print.Goals as goal

pub returns-in-Err-clause-out_written : goal.returns-in-Err-clause-out_written
returns-in-Err-clause-out_written g c broken = inr c.in-Err.ensures.reason
