use Rattle.std.proofs.Common.{◌≡◌, ◌∙◌, Some, sym}
use Rattle.plan.specs.Common.{plan_data, plan_fault}
use Rattle.commands.proofs.Reported.{only_memory, reports_no, reports_yes}
use Rattle.commands.proofs.reporting.reported_plan.Goals as goal

pub returns-in_ok-line-in-Ok-clause-report : goal.returns-in_ok-line-in-Ok-clause-report
returns-in_ok-line-in-Ok-clause-report c spelled =
    reports_yes c.args.text.now c.as_str.result.now c.args.plan c.in-Ok.plan c.made.result spelled c.in-Ok.ensures.plan c.in-Ok.ensures.faultless c.in-Ok.ensures.certified c.made.ensures.report

pub returns-in_ok-line-in-Ok-clause-stop : goal.returns-in_ok-line-in-Ok-clause-stop
returns-in_ok-line-in-Ok-clause-stop c = only_memory (λ fault. plan_fault (plan_data c.args.plan) ≡ Some fault) c.made.result c.made.ensures.stop

pub returns-in_ok-line-in-Err-clause-report : goal.returns-in_ok-line-in-Err-clause-report
returns-in_ok-line-in-Err-clause-report c spelled =
    reports_no c.args.text.now c.as_str-in-Err.result.now (plan_data c.args.plan) c.in-Err.stop c.made-in-Err.result spelled c.in-Err.ensures.stop (sym c.is_input.ensures ∙ c.if-is_input.false) (c.as_str-in-Err.ensures.value ∙ c.in_ok-line-in-Err.ensures.ok) c.made-in-Err.ensures.report

pub returns-in_ok-line-in-Err-clause-stop : goal.returns-in_ok-line-in-Err-clause-stop
returns-in_ok-line-in-Err-clause-stop c = only_memory (λ fault. plan_fault (plan_data c.args.plan) ≡ Some fault) c.made-in-Err.result c.made-in-Err.ensures.stop
