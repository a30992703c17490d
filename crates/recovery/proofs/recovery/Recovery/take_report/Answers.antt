use Rattle.std.proofs.Common.{◌≡◌, ◌<◌, true, Result, Err, sym, ap, ◌∙◌, subst}
use Rattle.std.proofs.lemmas.Result.{err_from_is_err_and}
use Rattle.volume_model.specs.Common.{Answers, never_after_growth, ClientAnswer, taken, last_epoch, From}
use Rattle.volume_model.specs.Client.{Client}
use Rattle.volume_model.specs.declared.fault.Fault.{Fault}
use Rattle.wire.specs.declared.message.Message.{Message}
use Rattle.wire.specs.Common.{message_of}
use Rattle.writer_core.specs.Writers.{silent}
use Rattle.writer_core.proofs.Answering.{judged, refused}
use Rattle.recovery.specs.Recoveries.{client_of, recovery_plan, recovery_volume}
use Rattle.writer_core.specs.Groups.{groups_in}
use Rattle.writer_core.specs.GroupStates.{report_of, reported_in}
use Rattle.recovery.specs.Cuts.{are_older}
use Rattle.recovery.proofs.Older.{older-reported}
use Rattle.recovery.proofs.Views.{either}
use Rattle.recovery.proofs.recovery.Recovery.take_report.Goals as goal

pub invariant_of-self-clause-older : goal.invariant_of-self-clause-older
invariant_of-self-clause-older c =
    let self = c.args.self.now in
    let report = c.args.report.now in
    let groups = groups_in self.group_states in
    let kept : From = report_of report in
    let less : last_epoch kept.contents.lineage < self.volume = subst (λ n. n < self.volume) (rw c.deref.ensures at c.last_epoch.ensures) c.if-last_epoch-self.false in
    either c.keep.result (λ gs. are_older self.volume gs ≡ true) (groups_in c.keep.new.self) (reported_in groups report.group kept) groups c.keep.ensures.kept c.keep.ensures.same
    (older-reported self.volume groups report.group kept self.older less) self.older

pub returns-in_err-admits_report-clause-answers : goal.returns-in_err-admits_report-clause-answers
returns-in_err-admits_report-clause-answers c =
    let self = c.args.self.now in
    let client : Client = client_of self in
    let defined : ClientAnswer = taken (recovery_plan self) (recovery_volume self) client (message_of (Message.Report c.args.report.now)) in
    let fault : Fault = c.in_err-admits_report.field-0.0 in
    let p = err_from_is_err_and c.from_residual.result c.from_residual.ensures.1 in
    let same : c.from_residual.result ≡ Err fault = p.1 ∙ ap Err p.2 in
    subst (λ (r : Result (Unit {0}) Fault). Answers silent defined client r client) (sym same)
    (refused never_after_growth silent fault defined client c.in_err-admits_report.ensures.own (judged fault defined c.in_err-admits_report.ensures.refusal))
