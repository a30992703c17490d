use Rattle.commands.proofs.Due.{any_fault}
use Rattle.commands.proofs.replacing.refused.Goals as goal

pub returns-in-Plan-clause-stop : goal.returns-in-Plan-clause-stop
returns-in-Plan-clause-stop c = any_fault _ c.of_plan.result c.of_plan.ensures.reported
