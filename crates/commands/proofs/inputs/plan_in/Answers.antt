use Rattle.std.proofs.Common.{◌≡◌, Err, IfErr, IfOk, Ok, subst}
use Rattle.plan.specs.Common.{plan_data, plan_of}
use Rattle.commands.specs.Stops.{StopsBy}
use Rattle.commands.proofs.inputs.plan_in.Goals as goal

pub returns-in-Ok-clause-plan : goal.returns-in-Ok-clause-plan
returns-in-Ok-clause-plan c = subst (λ t. IfOk c.plan_of_tape.result (λ plan. plan_of t ≡ Ok (plan_data plan))) c.in-Ok.ensures.text c.plan_of_tape.ensures.plan

pub returns-in-Ok-clause-stop : goal.returns-in-Ok-clause-stop
returns-in-Ok-clause-stop c = subst (λ t. IfErr c.plan_of_tape.result (StopsBy (λ fault. plan_of t ≡ Err fault))) c.in-Ok.ensures.text c.plan_of_tape.ensures.stop
