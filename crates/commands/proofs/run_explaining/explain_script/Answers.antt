use Rattle.std.proofs.Common.{◌∙◌, List, ℕ, refl, subst}
use Rattle.std.proofs.lemmas.Result.{err_from_is_err_and}
use Rattle.commands.specs.Answers.{file_of}
use Rattle.commands.specs.Answers.AnswersOf.{unmade}
use Rattle.commands.specs.JobAnswers.{shown_file}
use Rattle.commands.specs.Reports.{ExplainsFault}
use Rattle.commands.specs.Stops.{answer_of, stop_answer}
use Rattle.commands.specs.declared.reply.Stop.TheVariants as stops
use Rattle.commands.proofs.ExplainedScripts.{as_report, json_stops, over_plan, plan_stops}
use Rattle.commands.proofs.run_explaining.explain_script.Goals as goal

pub returns-in-Ok-clause-answers : goal.returns-in-Ok-clause-answers
returns-in-Ok-clause-answers g c =
    let file = λ (name : List ℕ). file_of g.P.Read.remaining name c.args.plan.now c.checked.new.plan in
    subst (λ (name : List ℕ). ExplainsFault c.args.job.now.json (file name) (answer_of c.over_plan.result)) (c.as_str.ensures.value ∙ c.in_ok-plan_name.ensures)
    (over_plan c.args.job.now.json (file c.as_str.result.now) c.in-Ok.plan (answer_of c.over_plan.result) c.in-Ok.ensures.plan)

pub returns-in-Err-clause-answers : goal.returns-in-Err-clause-answers
returns-in-Err-clause-answers g c =
    let file = λ (name : List ℕ). file_of g.P.Read.remaining name c.args.plan.now c.checked.new.plan in
    subst (λ (name : List ℕ). ExplainsFault c.args.job.now.json (file name) (answer_of c.explained_stop.result)) (c.as_str.ensures.value ∙ c.in_ok-plan_name.ensures)
    (json_stops c.args.job.now.json (file c.as_str.result.now) (stop_answer c.in-Err.stop) (answer_of c.explained_stop.result) (cc) c.in-Err.ensures.stop c.explained_stop.ensures.answers)

pub returns-clause-answers : goal.returns-clause-answers
returns-clause-answers g c =
    let file = λ (name : List ℕ). file_of g.P.Read.remaining name c.args.plan.now c.checked.new.plan in
    subst (λ (name : List ℕ). ExplainsFault c.args.job.now.json (file name) (stop_answer c.in-Err.stop)) (c.as_str.ensures.value ∙ c.in_ok-plan_name.ensures)
    (plan_stops c.args.job.now.json (file c.as_str.result.now) (stop_answer c.in-Err.stop) c.in-Err.ensures.stop)

pub returns-in_err-plan_name-clause-answers : goal.returns-in_err-plan_name-clause-answers
returns-in_err-plan_name-clause-answers g c =
    let p = err_from_is_err_and c.from_residual.result c.from_residual.ensures.1 in
    rw (p.1, p.2) (as_report c.args.job.now.json (shown_file g.P.Read.remaining c.args.job.now c.args.plan.now c.args.plan.now) (stop_answer stops.NoMemory) (unmade refl))
