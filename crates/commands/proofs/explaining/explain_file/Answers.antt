use Rattle.std.proofs.Common.{◌∙◌, List, ℕ, subst}
use Rattle.commands.specs.Answers.{AnswersOf, file_of}
use Rattle.commands.specs.Reports.{ExplainsAs}
use Rattle.commands.specs.Stops.{answer_of}
use Rattle.commands.proofs.Due.{text_due}
use Rattle.commands.proofs.explaining.explain_file.Goals as goal

pub returns-clause-answers : goal.returns-clause-answers
returns-clause-answers g c =
    let file = λ (name : List ℕ). file_of g.P.Read.remaining name c.args.plan.now c.contents.new.file in
    let due = ExplainsAs c.args.job.now.json in
    subst (λ (name : List ℕ). AnswersOf (file name) due (answer_of c.explained_as.result)) (c.as_str.ensures.value ∙ c.in_ok-name.ensures)
    (text_due due (file c.as_str.result.now) c.in_ok-text.text.items c.as_slice.result.now (answer_of c.explained_as.result) c.in_ok-text.ensures.read c.as_slice.ensures.value c.explained_as.ensures)
