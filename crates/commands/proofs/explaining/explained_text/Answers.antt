use Rattle.std.proofs.Common.{◌≡◌, ◌∙◌, [], Err, Some, ap, subst}
use Rattle.plan.specs.Common.{plan_data, plan_fault, plan_of}
use Rattle.commands.specs.Explains.{ExplainsTo}
use Rattle.commands.specs.Stops.{StopsBy}
use Rattle.commands.specs.Verdict.{first_fault}
use Rattle.commands.specs.declared.reply.Stop.{Stop}
use Rattle.commands.proofs.Due.{plan_says, stop_says}
use Rattle.commands.proofs.ExplainedPlans.{explains_fault}
use Rattle.commands.proofs.explaining.explained_text.Goals as goal

pub returns-in-Ok : goal.returns-in-Ok
returns-in-Ok c =
    let spelled = c.in-Ok.ensures.plan in
    plan_says (λ fault. plan_fault (plan_data c.in-Ok.plan) ≡ Some fault) (ExplainsTo c.args.text.now) c.explained_plan.result (λ fault is. explains_fault c.args.text.now [] fault (ap first_fault spelled ∙ is)) (c.explained_plan.ensures.reply spelled) c.explained_plan.ensures.stop

pub returns-in-Err-Plan : goal.returns-in-Err-Plan
returns-in-Err-Plan c =
    c.placed.ensures (subst (λ (s : Stop). StopsBy (λ fault. plan_of c.args.text.now ≡ Err fault) s) c.in-Err-Plan.field-0-is c.in-Err-Plan.ensures.stop)

pub returns-in-Err : goal.returns-in-Err
returns-in-Err c = stop_says (λ fault. plan_of c.args.text.now ≡ Err fault) (ExplainsTo c.args.text.now) c.in-Err.stop (λ fault is. explains_fault c.args.text.now [] fault (ap first_fault is)) c.in-Err.ensures.stop
