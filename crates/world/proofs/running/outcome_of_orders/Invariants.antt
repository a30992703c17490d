use Rattle.std.proofs.Common.{◌≡◌, ◌++◌, [], length}
use Rattle.std.specs.Arc.{arc_value}
use Rattle.std.specs.Vec.Iter.{into_iter_items}
use Rattle.volume_model.specs.World as model
use Rattle.plan.specs.Common.{checked_model}
use Rattle.world.specs.Actors.{plan_of, world_of, messages_in, AreActors}
use Rattle.world.specs.Events.{events_from, firsts_of, total_made}
use Rattle.world.proofs.running.outcome_of_orders.Given as goal

abbrev pub invariant-loop-order : goal.invariant-loop-order
invariant-loop-order l =
    let plan = checked_model (arc_value l.plan) in
    record {
      good : AreActors l.actors;
      plan_is : plan_of l.actors ≡ plan;
      event_result : l.results.items ++ model.results plan (world_of l.actors) (events_from plan (world_of l.actors) l.results.items (into_iter_items l.order-iterator)) ≡ model.results plan (model.opening plan) (events_from plan (model.opening plan) [] l.fn.orders.items);
      rest : model.run plan (world_of l.actors) (events_from plan (world_of l.actors) l.results.items (into_iter_items l.order-iterator)) ≡ model.run plan (model.opening plan) (events_from plan (model.opening plan) [] l.fn.orders.items);
      firsts : l.firsts.items ≡ firsts_of 0 l.results.items;
      total : total_made l.results.items ≡ length (messages_in l.actors);
    }
