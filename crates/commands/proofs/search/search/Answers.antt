use Rattle.std.proofs.Common.{◌≡◌, Err, inl, inr, refl}
use Rattle.std.proofs.lemmas.Result.{IfOk-weaker}
use Rattle.commands.specs.Answers.{file_of}
use Rattle.commands.specs.Searched.{SearchesTo, claims_of}
use Rattle.commands.specs.Stops.{answer_of}
use Rattle.commands.proofs.Due.{plan_says, text_due}
use Rattle.commands.proofs.search.search.Goals as goal

pub returns-clause-answers : goal.returns-clause-answers
returns-clause-answers g c =
    let text = c.as_slice.result.now in
    text_due SearchesTo (file_of g.P.Read.remaining c.args.job.now.plan.now c.args.plan.now c.contents.new.file) c.in_ok-text.text.items text (answer_of c.searched.result) c.in_ok-text.ensures.read c.as_slice.ensures.value
    (plan_says (λ fault. claims_of text ≡ Err fault) (SearchesTo text) c.searched.result (λ fault is. inl (fault, is, refl)) (IfOk-weaker c.searched.result _ _ (λ reply h. inr h) c.searched.ensures.reported) c.searched.ensures.stop)
