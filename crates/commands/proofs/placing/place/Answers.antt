use Rattle.commands.proofs.Placed.{refused_in}
use Rattle.commands.proofs.placing.place.Goals as goal

pub returns-in-Err-clause-ends : goal.returns-in-Err-clause-ends
returns-in-Err-clause-ends g c = rw c.in-Err.is (refused_in {file = c.args.file.now} c.in-Err.stop c.refuse.ensures.ends)
