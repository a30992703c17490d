use Rattle.commands.proofs.Due.{line_stops}
use Rattle.commands.proofs.inputs.script_in.Goals as goal

pub returns-in-Err-clause-stop : goal.returns-in-Err-clause-stop
returns-in-Err-clause-stop c = line_stops c.args.text.now c.in-Err.fault c.of_script.result c.of_script.ensures c.in-Err.ensures
