use Rattle.std.proofs.Common.{◌≡◌, Result, Err, sym, ap, ◌∙◌, subst}
use Rattle.std.proofs.lemmas.Result.{err_from_is_err_and}
use Rattle.wire.specs.declared.messages.Messages.{Messages}
use Rattle.volume_model.specs.Common.{Answers, never_after_growth, ClientAnswer, issued}
use Rattle.volume_model.specs.Client.{Client}
use Rattle.volume_model.specs.declared.fault.Fault.{Fault}
use Rattle.writer_core.specs.Changes.{changes_of}
use Rattle.writer_core.specs.Writers.{answered, client_of, writer_plan, writer_volume}
use Rattle.writer_core.proofs.Answering.{judged, refused}
use Rattle.writer_core.proofs.writer.Writer.issue.Goals as goal
use Rattle.std.proofs.Common.{rules}

pub returns-in_err-admits-clause-answers : goal.returns-in_err-admits-clause-answers
returns-in_err-admits-clause-answers c =
    let self = c.args.self.now in
    let client : Client = client_of self in
    let defined : ClientAnswer = issued (writer_plan self) (writer_volume self) client (changes_of c.args.changes.now) in
    let fault : Fault = c.in_err-admits.field-0.0 in
    let p = err_from_is_err_and c.from_residual.result c.from_residual.ensures.1 in
    let same : c.from_residual.result ≡ Err fault = p.1 ∙ ap Err p.2 in
    subst (λ (r : Result Messages Fault). Answers answered defined client r client) (sym same) (refused never_after_growth answered fault defined client c.in_err-admits.ensures.own (judged fault defined c.in_err-admits.ensures.refusal))

pub invariant_of-self-in-Err-clause-covers : goal.invariant_of-self-in-Err-clause-covers
invariant_of-self-in-Err-clause-covers c = search (rules, c.len-length.ensures, c.truncate.ensures.packets, c.append.ensures.front)
