use Rattle.std.proofs.Common.{◌≡◌}
use Rattle.plan.specs.Common.{checked_model, model_of}
use Rattle.commands.specs.Answer.{printed}
use Rattle.commands.specs.Answers.{file_of}
use Rattle.commands.specs.RunText.{plan_line}
use Rattle.commands.specs.Stops.{answer_of, stop_answer}
use Rattle.commands.proofs.Due.{never_certified, plan_due, reply_says}
use Rattle.commands.proofs.checking.check.Goals as goal

pub returns-in-Ok-clause-answers : goal.returns-in-Ok-clause-answers
returns-in-Ok-clause-answers g c =
    let reported = c.plan_reported-reported in
    plan_due (λ plan said. said ≡ printed 0 (plan_line (model_of plan))) (file_of g.P.Read.remaining c.args.name.now c.args.plan.now c.checked.new.plan) c.in-Ok.plan (answer_of reported.result) c.in-Ok.ensures.plan
    (reply_says (λ said. said ≡ printed 0 (plan_line (checked_model c.in-Ok.plan))) reported.result reported.ensures.line reported.ensures.stop)

pub returns-in-Err-clause-answers : goal.returns-in-Err-clause-answers
returns-in-Err-clause-answers g c =
    never_certified (λ plan said. said ≡ printed 0 (plan_line (model_of plan))) (file_of g.P.Read.remaining c.args.name.now c.args.plan.now c.checked.new.plan) (stop_answer c.in-Err.stop) c.in-Err.ensures.stop
