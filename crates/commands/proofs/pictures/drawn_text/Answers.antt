use Rattle.std.proofs.Common.{◌≡◌, Err, refl}
use Rattle.std.proofs.lemmas.Result.{IfOk-weaker}
use Rattle.plan.specs.Common.{plan_data, plan_of}
use Rattle.commands.specs.Draws.{DrawsTo}
use Rattle.commands.specs.Draws.DrawsTo.{faulty, undrawn, drawn}
use Rattle.commands.proofs.Due.{plan_says, stop_says}
use Rattle.commands.proofs.pictures.drawn_text.Goals as goal

pub returns-in-Ok : goal.returns-in-Ok
returns-in-Ok c =
    let plan = plan_data c.in-Ok.plan in
    plan_says (λ fault. Unit {0}) (DrawsTo c.args.text.now) c.drawn_plan.result (λ fault is. undrawn plan c.in-Ok.ensures.plan fault refl)
    (IfOk-weaker c.drawn_plan.result _ _ (λ reply h. drawn plan c.in-Ok.ensures.plan h.0 h.1) c.drawn_plan.ensures.picture) c.drawn_plan.ensures.stop

pub returns-in-Err : goal.returns-in-Err
returns-in-Err c = stop_says (λ fault. plan_of c.args.text.now ≡ Err fault) (DrawsTo c.args.text.now) c.in-Err.stop (λ fault is. faulty fault is refl) c.in-Err.ensures.stop
