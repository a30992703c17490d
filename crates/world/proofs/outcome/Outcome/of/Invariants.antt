use Rattle.std.proofs.Common.{◌≡◌, ◌≤◌, ◌&&◌, ℕ, map, nat_lt}
use Rattle.volume_model.specs.Common.{each_below, has_cut, is_open, found_client, opened_client}
use Rattle.world.specs.Actors.{plan_of, world_of, AreActors}
use Rattle.world.specs.Clients.{client_in, clients_of}
use Rattle.world.specs.Outcomes.{opened_of, find_of, is_reading}
use Rattle.world.proofs.outcome.Outcome.of.Given as goal

abbrev pub invariant-loop-volume : goal.invariant-loop-volume
invariant-loop-volume l =
    let clients = clients_of l.fn.actors.clients.items in
    record {
      left : (v : ℕ) → l.volume ≤ v → client_in l.clients.items v ≡ client_in l.fn.actors.clients.items v;
      writers : map opened_of l.outcome.writers.items ≡ each_below l.volume (λ v. is_open (clients v).stage) (λ v. opened_client v (clients v));
      finds : map find_of l.outcome.finds.items ≡ each_below l.volume (λ v. nat_lt 1 v && has_cut (clients v).stage) (λ v. found_client v (clients v));
      readers : l.outcome.readers.items ≡ each_below l.volume (λ v. is_reading (clients v).stage) (λ v. v);
      results : l.outcome.results ≡ l.fn.results;
      good : AreActors l.outcome.actors;
      plan : plan_of l.outcome.actors ≡ plan_of l.fn.actors;
      nodes : (world_of l.outcome.actors).nodes ≡ (world_of l.fn.actors).nodes;
    }
