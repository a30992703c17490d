use Rattle.std.proofs.Common.{◌≡◌, ℕ, ◌&&◌, map, nat_lt, sym, ap, ap₂, ◌∙◌, subst, arith}
use Rattle.volume_model.specs.Common.{has_cut, is_open, found_client, opened_client}
use Rattle.world.specs.Actors.{plan_of, world_of, AreActors}
use Rattle.world.specs.Clients.{client_or_unborn, clients_of}
use Rattle.world.specs.Outcomes.{opened_of, find_of, is_reading, opened_by, found_by, read_by}
use Rattle.world.proofs.EachBelow.{each-next, each-last}
use Rattle.world.proofs.outcome.Outcome.of.Goals as goal
use Rattle.std.proofs.lemmas.Grind.{common_steps}
use Rattle.std.proofs.Common.{rules}

pub loop-volume-preserved : goal.loop-volume-preserved
loop-volume-preserved c =
    let l = c.loop-volume in
    let v : ℕ = l.volume in
    let clients = clients_of c.args.actors.clients.items in
    let client : client_or_unborn c.take.result ≡ clients v = ap client_or_unborn (c.take.ensures.client ∙ l.invariant.left v (omega arith)) in
    let added = c.in_ok-add.ensures in
    record {
      left = λ other later. c.take.ensures.later other (omega (arith, later)) ∙ l.invariant.left other (omega (arith, later));
      writers = each-next (λ n. is_open (clients n).stage) (λ n. opened_client n (clients n)) v (map opened_of l.outcome.writers.items) _ _ l.invariant.writers added.writers (ap (opened_by v) client);
      finds = each-next (λ n. nat_lt 1 n && has_cut (clients n).stage) (λ n. found_client n (clients n)) v (map find_of l.outcome.finds.items) _ _ l.invariant.finds added.finds (ap (found_by v) client);
      readers = each-next (λ n. is_reading (clients n).stage) (λ n. n) v l.outcome.readers.items _ _ l.invariant.readers added.readers (ap (read_by v) client);
      results = added.results ∙ l.invariant.results;
      good = subst AreActors (sym added.actors) l.invariant.good;
      plan = ap plan_of added.actors ∙ l.invariant.plan;
      nodes = ap (λ a. (world_of a).nodes) added.actors ∙ l.invariant.nodes;
    }

-- the client of the last volume epoch
last_client : (c : goal.After-drop-clients-2) → client_or_unborn c.take-2.result ≡ clients_of c.args.actors.clients.items c.args.actors.authority.last_volume
last_client c = grind (arith, common_steps)

-- the loop ends at the last volume epoch
ends : (c : goal.After-drop-clients-2) → c.loop-volume.volume ≡ c.args.actors.authority.last_volume
ends c = omega (arith, c.loop-volume-test.false, c.loop-volume.auto.volume-end, c.last_volume-last.ensures)

pub returns-clause-writers : goal.returns-clause-writers
returns-clause-writers c =
    let clients = clients_of c.args.actors.clients.items in
    each-last (λ n. is_open (clients n).stage) (λ n. opened_client n (clients n)) c.loop-volume.volume c.args.actors.authority.last_volume (map opened_of c.loop-volume.outcome.writers.items) _ _
    (ends c) c.loop-volume.invariant.writers c.in_ok-add-2.ensures.writers (ap₂ opened_by c.last_volume-last.ensures (last_client c))

pub returns-clause-finds : goal.returns-clause-finds
returns-clause-finds c = search (rules, c.loop-volume.invariant.finds, c.in_ok-add-2.ensures.finds, c.last_volume-last.ensures, each-last)

pub returns-clause-readers : goal.returns-clause-readers
returns-clause-readers c = search (rules, c.loop-volume.invariant.readers, c.in_ok-add-2.ensures.readers, c.last_volume-last.ensures, each-last)
