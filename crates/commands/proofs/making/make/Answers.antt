use Rattle.commands.specs.Answers.{file_of}
use Rattle.commands.specs.Makes.{IsMade}
use Rattle.commands.specs.Stops.{answer_of, stop_answer}
use Rattle.commands.proofs.Due.{never_certified, plan_due, reply_says}
use Rattle.commands.proofs.making.make.Goals as goal

pub returns-in-Ok-clause-answers : goal.returns-in-Ok-clause-answers
returns-in-Ok-clause-answers g c =
    plan_due (λ plan. IsMade) (file_of g.P.Read.remaining c.args.job.now.plan.now c.args.plan.now c.checked.new.plan) c.in-Ok.plan (answer_of c.made.result) c.in-Ok.ensures.plan (reply_says IsMade c.made.result c.made.ensures.made c.made.ensures.stop)

pub returns-in-Err-clause-answers : goal.returns-in-Err-clause-answers
returns-in-Err-clause-answers g c =
    never_certified (λ plan. IsMade) (file_of g.P.Read.remaining c.args.job.now.plan.now c.args.plan.now c.checked.new.plan) (stop_answer c.in-Err.stop) c.in-Err.ensures.stop
