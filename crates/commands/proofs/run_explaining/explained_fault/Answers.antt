use Rattle.std.proofs.Common.{◌∙◌}
use Rattle.commands.proofs.Reported.{fault_reports, made_quiet}
use Rattle.commands.proofs.run_explaining.explained_fault.Goals as goal

pub returns-clause-report : goal.returns-clause-report
returns-clause-report c =
    fault_reports c.args.fault c.status_of-status.result c.as_str-line.result.now c.report_of.result c.status_of-status.ensures (c.as_str-line.ensures.value ∙ c.in_ok-text.ensures.ok) c.report_of.ensures.report

pub returns-clause-quiet : goal.returns-clause-quiet
returns-clause-quiet c = made_quiet c.status_of-status.result c.as_str-line.result.now c.report_of.result c.report_of.ensures.report
