use Rattle.std.proofs.Common.{sym, subst}
use Rattle.commands.specs.Answer.{Says, fault_answer}
use Rattle.commands.specs.Reports.{IsReportOf}
use Rattle.commands.specs.Stops.{answer_of, stop_answer}
use Rattle.commands.specs.declared.reply.Stop.{Stop}
use Rattle.commands.proofs.Due.{reply_says}
use Rattle.commands.proofs.run_explaining.explained_stop.Goals as goal

pub returns-in-Plan-clause-answers : goal.returns-in-Plan-clause-answers
returns-in-Plan-clause-answers c =
    subst (λ (s : Stop). Says (IsReportOf (stop_answer s)) (answer_of c.explained_fault.result)) (sym c.in-Plan.is)
    (reply_says (IsReportOf (fault_answer c.in-Plan.fault)) c.explained_fault.result c.explained_fault.ensures.report c.explained_fault.ensures.stop)
