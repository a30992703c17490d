use Rattle.std.proofs.Common.{◌≡◌, ◌≢◌, ℕ, ◌+◌, ◌++◌, ◌∷◌, [], List, Result, Err, arith}
use Rattle.std.specs.Arc.{arc_value}
use Rattle.std.specs.Vec.Iter.{into_iter_items}
use Rattle.volume_model.specs.declared.fault.Fault.{Fault}
use Rattle.volume_model.specs.declared.fault.Fault.TheVariants.{NoMemory}
use Rattle.volume_model.specs.Common.{Plan}
use Rattle.volume_model.specs.World as model
use Rattle.plan.specs.Common.{checked_model}
use Rattle.world.specs.declared.event.Order.{Order}
use Rattle.world.specs.Actors.{event_after_growth, plan_of, world_of, Steps}
use Rattle.world.specs.Events.{total_made, ordered, events_from}
use Rattle.world.proofs.Runs.{results_on, run_on, order_rest, total_on}
use Rattle.world.proofs.Numbers.{firsts_of-push}
use Rattle.world.proofs.running.outcome_of_orders.Goals as goal
use Rattle.std.proofs.lemmas.Grind.{common_steps}

pub loop-order-preserved : goal.loop-order-preserved
loop-order-preserved c =
    let plan : Plan = checked_model (arc_value c.args.plan.now) in
    let order : Order = c.in-Some.order in
    let result : Result ℕ Fault = c.in_ok-result.result in
    let results : List (Result ℕ Fault) = c.loop-order.results.items in
    let old : model.World = world_of c.loop-order.actors in
    let new : model.World = world_of c.follow-step.new.actors in
    let left : List Order = into_iter_items c.next.new.self in
    let event : model.Event = ordered results order in
    let later : List model.Event = events_from plan new (results ++ result ∷ []) left in
    let followed : Steps (event_after_growth event) (model.step (plan_of c.loop-order.actors) old event) old c.follow-step.result new = rw c.as_slice-in-loop-order-2.ensures.value at c.follow-step.ensures.steps in
    let steps : Steps (event_after_growth event) (model.step plan old event) old result new = grind (arith, common_steps) in
    let ne : result ≢ Err NoMemory = c.in_ok-result.ensures.some in
    let rest : events_from plan old results (into_iter_items c.loop-order.order-iterator) ≡ event ∷ later = grind (arith, common_steps, c.in-Some.ensures.steps.0, order_rest) in
    let items : c.push-in-loop-order.new.self.items ≡ results ++ result ∷ [] = c.in_ok-push-2.ensures.items in
    let firsts : c.push.new.self.items ≡ c.loop-order.firsts.items ++ c.in_ok-made.made ∷ [] = c.in_ok-push.ensures.items in
    let made : c.in_ok-made.made ≡ 0 + total_made results = omega (arith, c.in_ok-made.ensures.same, c.made.ensures, c.loop-order.invariant.total) in
    grind (arith, common_steps, c.follow-step.ensures.good, c.follow-step.ensures.plan, c.loop-order.invariant.plan_is, c.loop-order.invariant.event_result, c.loop-order.invariant.rest, c.loop-order.invariant.firsts, c.loop-order.invariant.total, results_on, run_on, firsts_of-push, total_on)
