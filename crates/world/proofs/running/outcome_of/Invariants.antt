use Rattle.std.proofs.Common.{◌≡◌, ◌++◌, drop}
use Rattle.std.specs.Arc.{arc_value}
use Rattle.volume_model.specs.World as model
use Rattle.plan.specs.Common.{checked_model}
use Rattle.world.specs.Actors.{plan_of, world_of, AreActors}
use Rattle.world.specs.Events.{events_of}
use Rattle.world.proofs.running.outcome_of.Given as goal

abbrev pub invariant-loop-event : goal.invariant-loop-event
invariant-loop-event l =
    let plan = checked_model (arc_value l.plan) in
    record {
      good : AreActors l.actors;
      plan_is : plan_of l.actors ≡ plan;
      event_result : l.results.items ++ model.results plan (world_of l.actors) (events_of (drop l.event-index l.events)) ≡ model.results plan (model.opening plan) (events_of l.events);
      rest : model.run plan (world_of l.actors) (events_of (drop l.event-index l.events)) ≡ model.run plan (model.opening plan) (events_of l.events);
    }
