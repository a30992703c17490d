use Rattle.std.proofs.Common.{◌≡◌, [], refl, sym, ap, ◌∙◌, subst, rules}
use Rattle.std.specs.Arc.{arc_value}
use Rattle.std.specs.Global.{Box}
use Rattle.volume_model.specs.Common.{added, put, Plan, born_node, first_writer, unborn, opening}
use Rattle.plan.specs.Common.{plan_data, checked_model}
use Rattle.wire.specs.Common.{messages_of}
use Rattle.epochs.specs.Authority.{authority_of, authority_plan}
use Rattle.world.specs.declared.client.Client.{Client}
use Rattle.world.specs.Slots.{node_at}
use Rattle.world.specs.Homes.{nodes_of, AreHomes}
use Rattle.world.specs.Worlds.{world_with}
use Rattle.world.specs.Clients.{clients_of, seen_client, AreClients, IsClientOf, IsPut}
use Rattle.world.proofs.ClientTable.{clients_on, none_kept}
use Rattle.world.proofs.Low.{is_low}
use Rattle.world.proofs.Steps.{LowFor}
use Rattle.world.proofs.actors.Actors.open.Goals as goal
use Rattle.std.proofs.lemmas.Grind.{common_steps}
use Rattle.std.proofs.Common.{arith}

pub returns-clause-good : goal.returns-clause-good
returns-clause-good c =
    let plan : Plan = checked_model (arc_value c.args.plan.now) in
    let same : authority_plan c.in_ok-new-2.field-0 ≡ plan = search rules in
    let first : Client = c.in_ok-first.first in
    let mine : IsClientOf plan 1 first = search rules in
    let home : Box Client = c.in_ok-new.field-0 in
    let inside : home.value ≡ first = c.in_ok-new.ensures.ok in
    let is : IsPut c.new-clients.result.items 1 home c.keep.new.clients.items = c.in_ok-keep.ensures.kept in
    let cloned : checked_model (arc_value c.in_ok-clone-2.field-0) ≡ plan = search rules in
    let whole : checked_model (arc_value c.in_ok-clone-2.field-0) ≡ authority_plan c.in_ok-new-2.field-0 = cloned ∙ sym same in
    record {
      plan = whole;
      homes = subst (λ (p : Plan). AreHomes p c.in_ok-all_born.field-0.items) (sym same) c.in_ok-all_born.ensures.homes;
      low = subst LowFor (sym same) (λ group member h. is_low (plan_data (arc_value c.args.plan.now).plan) group member h);
      clients = subst (λ (p : Plan). AreClients p c.keep.new.clients.items) (sym same) (clients_on c.new-clients.result.items c.keep.new.clients.items 1 home is plan (none_kept c.new-clients.result.items c.new-clients.ensures.items plan) (subst (IsClientOf plan 1) (sym inside) mine));
    }

pub returns-clause-world : goal.returns-clause-world
returns-clause-world c =
    let plan : Plan = checked_model (arc_value c.args.plan.now) in
    let same : authority_plan c.in_ok-new-2.field-0 ≡ plan = search rules in
    let first : Client = c.in_ok-first.first in
    let home : Box Client = c.in_ok-new.field-0 in
    let inside : home.value ≡ first = c.in_ok-new.ensures.ok in
    let is : IsPut c.new-clients.result.items 1 home c.keep.new.clients.items = c.in_ok-keep.ensures.kept in
    let authority : authority_of c.in_ok-new-2.field-0 ≡ (opening plan).authority = search rules in
    let writer : seen_client first ≡ first_writer plan = search rules in
    let clients : clients_of c.keep.new.clients.items ≡ put (λ volume. unborn) 1 (first_writer plan) = grind (arith, common_steps, c.new-clients.ensures.items) in
    let nodes : node_at (authority_plan c.in_ok-new-2.field-0) (nodes_of c.in_ok-all_born.field-0.items) ≡ born_node plan = ap (λ (p : Plan). node_at p (nodes_of c.in_ok-all_born.field-0.items)) same ∙ c.in_ok-all_born.ensures.nodes in
    let messages : added (messages_of c.new-3.result.items) [] ≡ [] = rw c.new-3.ensures.items refl in
    λ i. world_with (authority i) (nodes i) (clients i) (messages i)
