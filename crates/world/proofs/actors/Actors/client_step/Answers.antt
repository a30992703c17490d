use Rattle.std.proofs.Common.{◌≡◌, ℕ, [], ◌<◌, List, Option, Some, None, Result, length, set, sym, ap, subst, ◌∙◌, rules}
use Rattle.std.specs.Box.{with_value}
use Rattle.std.specs.Global.{Box}
use Rattle.world.specs.declared.client.Client.{Client}
use Rattle.epochs.specs.Authority.{authority_of}
use Rattle.volume_model.specs.Common.{added, ClientAnswer, unborn, World, of_client}
use Rattle.volume_model.specs.declared.fault.Fault.{Fault}
use Rattle.volume_model.specs.Client as model
use Rattle.wire.specs.Common.{messages_of}
use Rattle.world.specs.Slots.{node_at}
use Rattle.world.specs.Homes.{nodes_of}
use Rattle.world.specs.Clients.{client_plan, client_volume, seen_client, client_or_unborn, client_in, clients_of, AreClients, IsClientOf}
use Rattle.world.specs.Actions.{client_after_growth, client_does}
use Rattle.world.specs.Moves.{ClientMoves}
use Rattle.world.specs.Worlds.{world_with}
use Rattle.world.specs.Actors.{plan_of, messages_in, world_of, Steps}
use Rattle.world.proofs.ClientTable.{client_put, clients_on, found_in, same_client, set_put}
use Rattle.world.proofs.OneNode.{set-read}
use Rattle.world.proofs.Steps.{client_steps}
use Rattle.world.proofs.actors.Actors.client_step.Goals as goal
use Rattle.std.proofs.lemmas.Grind.{common_steps}
use Rattle.std.proofs.Common.{arith}

pub returns-in-Some : goal.returns-in-Some
returns-in-Some c =
    let self = c.args.self.now in
    let kept : List (Option (Box Client)) = self.clients.items in
    let home : Box Client = c.in-Some.client in
    let old : Client = c.deref_mut.result.now in
    let new : Client = c.act.new.client in
    let later : Box Client = with_value home new in
    let within : c.args.volume < length kept = search rules in
    let there : client_in kept c.args.volume ≡ Some home = found_in kept c.args.volume c.index_mut.result.now (Some home) within c.index_mut.ensures.value c.in-Some.is in
    let own : IsClientOf (plan_of self) c.args.volume old = subst (IsClientOf (plan_of self) c.args.volume) (sym c.deref_mut.ensures.value) (c.requires.clients c.args.volume home there) in
    let at : clients_of kept c.args.volume ≡ seen_client old = ap client_or_unborn there ∙ ap seen_client (sym c.deref_mut.ensures.value) in
    let asked : client_does (messages_in self) c.args.action (client_plan old) (client_volume old) (seen_client old) ≡ client_does (messages_in self) c.args.action (plan_of self) c.args.volume (clients_of kept c.args.volume) = grind (arith, common_steps) in
    record {
      good = record {
        plan = c.requires.plan;
        homes = c.requires.homes;
        low = c.requires.low;
        clients = clients_on kept (set kept c.args.volume (Some later)) c.args.volume later (set_put kept c.args.volume later within) (plan_of self) c.requires.clients (same_client (plan_of self) c.args.volume old new own c.act.ensures.same);
      };
      steps = client_steps (authority_of self.authority) (node_at (plan_of self) (nodes_of self.nodes.items)) (clients_of kept) (messages_in self) c.args.volume (client_after_growth c.args.action) _ (seen_client old) (seen_client new) at (clients_of (set kept c.args.volume (Some later)))
          (client_put kept (set kept c.args.volume (Some later)) c.args.volume later (set_put kept c.args.volume later within)) c.act.result (added (messages_of c.act.new.messages.items) [])
          (subst (λ (d : ClientAnswer). ClientMoves (client_after_growth c.args.action) d (seen_client old) (messages_in self) c.act.result (seen_client new) (added (messages_of c.act.new.messages.items) [])) asked c.act.ensures.moves);
      plan = search rules;
    }

pub absent_step-requires-in-None-clause-actors : goal.absent_step-requires-in-None-clause-actors
absent_step-requires-in-None-clause-actors c =
    let self = c.args.self.now in
    let kept : List (Option (Box Client)) = self.clients.items in
    let read : Option (Box Client) = c.index_mut.result.now in
    let within : c.args.volume < length kept = search rules in
    record {
      plan = c.requires.plan;
      homes = c.requires.homes;
      low = c.requires.low;
      clients = subst (AreClients (plan_of self)) (sym (set-read kept c.args.volume read c.index_mut.ensures.value within)) c.requires.clients;
    }

pub returns-in-None-clause-steps : goal.returns-in-None-clause-steps
returns-in-None-clause-steps c =
    let self = c.args.self.now in
    let kept : List (Option (Box Client)) = self.clients.items in
    let read : Option (Box Client) = c.index_mut.result.now in
    let within : c.args.volume < length kept = search rules in
    let there : client_in kept c.args.volume ≡ None = found_in kept c.args.volume read None within c.index_mut.ensures.value c.in-None.is in
    let late = client_after_growth c.args.action in
    let result : Result ℕ Fault = c.absent_step-in-None.result in
    let new : World = world_of c.absent_step-in-None.new.self in
    let world = λ (clients : List (Option (Box Client))). world_with (authority_of self.authority) (node_at (plan_of self) (nodes_of self.nodes.items)) (clients_of clients) (messages_in self) in
    let ordered = λ (client : model.Client). client_does (messages_in self) c.args.action (plan_of self) c.args.volume client in
    subst (λ (client : model.Client). Steps late (of_client (world kept) c.args.volume (ordered client)) (world kept) result new) (sym (ap client_or_unborn there))
    (subst (λ (clients : List (Option (Box Client))). Steps late (of_client (world clients) c.args.volume (ordered unborn)) (world clients) result new) (set-read kept c.args.volume read c.index_mut.ensures.value within) c.absent_step-in-None.ensures.steps)
