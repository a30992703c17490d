use Rattle.std.proofs.Common.{◌≡◌, ◌∙◌, Err, Some, ap, subst}
use Rattle.plan.specs.Common.{plan_data, plan_fault, plan_of}
use Rattle.commands.specs.Reports.{ReportsTo}
use Rattle.commands.specs.Stops.{StopsBy}
use Rattle.commands.specs.Verdict.{first_fault}
use Rattle.commands.specs.declared.reply.Stop.{Stop}
use Rattle.commands.proofs.Due.{plan_says, reply_says, stop_says}
use Rattle.commands.proofs.Reported.{fault_due}
use Rattle.commands.proofs.reporting.reported_text.Goals as goal

pub returns-in-Ok : goal.returns-in-Ok
returns-in-Ok c =
    let spelled = c.in-Ok.ensures.plan in
    plan_says (λ fault. plan_fault (plan_data c.in-Ok.plan) ≡ Some fault) (ReportsTo c.args.text.now) c.reported_plan.result (λ fault is. fault_due c.args.text.now fault (ap first_fault spelled ∙ is)) (c.reported_plan.ensures.report spelled) c.reported_plan.ensures.stop

pub returns-in-Err-Plan : goal.returns-in-Err-Plan
returns-in-Err-Plan c =
    reply_says (ReportsTo c.args.text.now) c.reported_fault.result
    (c.reported_fault.ensures.report (subst (λ (s : Stop). StopsBy (λ fault. plan_of c.args.text.now ≡ Err fault) s) c.in-Err-Plan.field-0-is c.in-Err-Plan.ensures.stop)) c.reported_fault.ensures.stop

pub returns-in-Err : goal.returns-in-Err
returns-in-Err c = stop_says (λ fault. plan_of c.args.text.now ≡ Err fault) (ReportsTo c.args.text.now) c.in-Err.stop (λ fault is. fault_due c.args.text.now fault (ap first_fault is)) c.in-Err.ensures.stop
