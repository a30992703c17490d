use Rattle.volume_c.proofs.plan_calls.volume_plan_read.Goals as goal

pub returns-in-Ok : goal.returns-in-Ok
returns-in-Ok c = (λ ok. (c.in-Ok.plan, c.hold_plan.ensures.ok ok, c.in-Ok.ensures.spelled, c.in-Ok.ensures.faultless), c.hold_plan.ensures.err)
