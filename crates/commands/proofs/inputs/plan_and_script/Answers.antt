use Rattle.commands.specs.Answers.{AnswersOf, ScriptAnswers, file_of, script_name}
use Rattle.commands.specs.Stops.{stop_answer}
use Rattle.commands.proofs.Due.{bad_script, never_certified}
use Rattle.commands.proofs.inputs.plan_and_script.Goals as goal

pub returns-in-Ok-clause-stop : goal.returns-in-Ok-clause-stop
returns-in-Ok-clause-stop g c =
    bad_script (file_of g.P.Read.remaining c.args.job.now.plan.now c.args.plan.now c.checked.new.plan) (file_of g.S.Read.remaining (script_name c.args.job.now) c.args.script.now c.with_script.new.script)
    c.in-Ok.plan c.with_script.result c.in-Ok.ensures.plan c.with_script.ensures.stop

pub returns-in-Err-clause-stop : goal.returns-in-Err-clause-stop
returns-in-Err-clause-stop g c =
    never_certified (λ plan. AnswersOf (file_of g.S.Read.remaining (script_name c.args.job.now) c.args.script.now c.args.script.now) (ScriptAnswers (λ _ _ _. ⊥))) (file_of g.P.Read.remaining c.args.job.now.plan.now c.args.plan.now c.checked.new.plan)
    (stop_answer c.in-Err.stop) c.in-Err.ensures.stop
