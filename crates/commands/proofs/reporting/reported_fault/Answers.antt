use Rattle.std.proofs.Common.{◌∙◌, ap}
use Rattle.commands.specs.Verdict.{first_fault}
use Rattle.commands.proofs.Reported.{fault_reports, reports_fault}
use Rattle.commands.proofs.reporting.reported_fault.Goals as goal

pub returns-clause-report : goal.returns-clause-report
returns-clause-report c is =
    reports_fault c.args.text.now c.args.fault c.made.result (ap first_fault is)
    (fault_reports c.args.fault c.status_of-status.result c.as_str.result.now c.made.result c.status_of-status.ensures (c.as_str.ensures.value ∙ c.in_ok-line.ensures.ok) c.made.ensures.report)
