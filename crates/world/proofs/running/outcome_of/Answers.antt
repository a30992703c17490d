use Rattle.std.proofs.Common.{◌≡◌, ◌≢◌, ℕ, ◌+◌, ◌∷◌, List, Result, Err, drop, subst}
use Rattle.std.specs.Arc.{arc_value}
use Rattle.volume_model.specs.declared.fault.Fault.{Fault}
use Rattle.volume_model.specs.declared.fault.Fault.TheVariants.{NoMemory}
use Rattle.volume_model.specs.Common.{Plan}
use Rattle.volume_model.specs.World as model
use Rattle.plan.specs.Common.{checked_model}
use Rattle.world.specs.declared.event.Event.{Event}
use Rattle.world.specs.Actors.{event_after_growth, world_of, Steps}
use Rattle.world.specs.Events.{event_of, events_of}
use Rattle.world.proofs.Runs.{results_on, run_on}
use Rattle.world.proofs.running.outcome_of.Goals as goal
use Rattle.std.proofs.lemmas.Grind.{common_steps}
use Rattle.std.proofs.Common.{arith}

pub loop-event-preserved : goal.loop-event-preserved
loop-event-preserved c =
    let plan : Plan = checked_model (arc_value c.args.plan.now) in
    let e : Event = c.event-item.result in
    let event_result : Result ℕ Fault = c.in_ok-result.result in
    let later : List model.Event = events_of (drop (c.loop-event.event-index + 1) c.args.events.now) in
    let rest : events_of (drop c.loop-event.event-index c.args.events.now) ≡ event_of e ∷ later = grind (arith, common_steps) in
    let steps : Steps (event_after_growth (event_of e)) (model.step plan (world_of c.loop-event.actors) (event_of e)) (world_of c.loop-event.actors) event_result (world_of c.step.new.self) =
    subst (λ (p : Plan). Steps (event_after_growth (event_of e)) (model.step p (world_of c.loop-event.actors) (event_of e)) (world_of c.loop-event.actors) event_result (world_of c.step.new.self)) c.loop-event.invariant.plan_is (rw c.in_ok-result.ensures.same c.step.ensures.steps) in
    let ne : event_result ≢ Err NoMemory = c.in_ok-result.ensures.some in
    grind (arith, common_steps, c.step.ensures.good, c.step.ensures.plan, c.loop-event.invariant.plan_is, c.in_ok-push.ensures.items, c.loop-event.invariant.event_result, c.loop-event.invariant.rest, results_on, run_on)
