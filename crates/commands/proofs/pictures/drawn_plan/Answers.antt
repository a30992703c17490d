use Rattle.commands.proofs.Due.{any_fault}
use Rattle.commands.proofs.pictures.drawn_plan.Goals as goal

pub returns-in-Err-clause-stop : goal.returns-in-Err-clause-stop
returns-in-Err-clause-stop c = any_fault _ c.of_plan.result c.of_plan.ensures.reported
