use Rattle.std.specs.Arc.{arc_value}
use Rattle.plan.specs.Common.{checked_model}
use Rattle.commands.specs.Answers.{PrintsFleetOf, PrintsScript, file_of, script_name}
use Rattle.commands.specs.Draws.{printing}
use Rattle.commands.specs.declared.running.ScriptUse.TheVariants.{Draw}
use Rattle.commands.specs.Stops.{stop_answer}
use Rattle.commands.proofs.Due.{both_reported, fleet_reported, never_reported, run_reported}
use Rattle.commands.proofs.running.use_script.Goals as goal

pub returns-in-Run-clause-answers : goal.returns-in-Run-clause-answers
returns-in-Run-clause-answers g c =
    let script = c.in-Ok.both.script in
    let plan = arc_value c.in-Ok.both.plan in
    rw c.in-Run.is (both_reported PrintsScript _ _ plan script c.ran.result c.in-Ok.ensures.plan c.in-Ok.ensures.script (run_reported (checked_model plan) script c.ran.result c.ran.ensures.reported) c.ran.ensures.stop)

pub returns-in-Fleet-clause-answers : goal.returns-in-Fleet-clause-answers
returns-in-Fleet-clause-answers g c =
    let script = c.in-Ok.both.script in
    let plan = arc_value c.in-Ok.both.plan in
    rw c.in-Fleet.is (both_reported PrintsFleetOf _ _ plan script c.driven.result c.in-Ok.ensures.plan c.in-Ok.ensures.script (fleet_reported (checked_model plan) script c.driven.result c.driven.ensures.reported) c.driven.ensures.stop)

pub returns-in-Draw-clause-answers : goal.returns-in-Draw-clause-answers
returns-in-Draw-clause-answers g c =
    let both = c.in-Ok.both in
    rw c.in-Draw.is (both_reported (printing Draw) _ _ (arc_value both.plan) both.script c.drawn_run.result c.in-Ok.ensures.plan c.in-Ok.ensures.script (λ text is. c.drawn_run.ensures.made) c.drawn_run.ensures.stop)

pub returns-in-Err-clause-answers : goal.returns-in-Err-clause-answers
returns-in-Err-clause-answers g c =
    never_reported (printing c.args.script_use) (file_of g.S.Read.remaining (script_name c.args.job.now) c.args.script.now c.plan_and_script.new.script) (file_of g.P.Read.remaining c.args.job.now.plan.now c.args.plan.now c.plan_and_script.new.plan)
    (stop_answer c.in-Err.stop) c.in-Err.ensures.stop
