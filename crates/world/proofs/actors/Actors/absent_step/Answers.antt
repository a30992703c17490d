use Rattle.std.proofs.Common.{◌≡◌, ◌++◌, ℕ, Bool, [], List, Option, None, Ok, Err, refl, sym, ap, ◌∙◌, subst, rules}
use Rattle.std.proofs.lemmas.Result.{err_from_is_err_and}
use Rattle.std.specs.Arc.{arc_value}
use Rattle.std.specs.Global.{Box}
use Rattle.plan.specs.Common.{checked_model}
use Rattle.volume_model.specs.Common.{added, put, ClientAnswer, ClientStep, unborn, of_client}
use Rattle.volume_model.specs.declared.fault.Fault.{Fault}
use Rattle.volume_model.specs.Message as model_message
use Rattle.wire.specs.declared.message.Message.{Message}
use Rattle.wire.specs.Common.{listed, messages_of}
use Rattle.epochs.specs.Authority.{authority_of}
use Rattle.writer_core.specs.Writers.{answered}
use Rattle.world.specs.declared.actions.ClientAction.{ClientAction}
use Rattle.world.specs.declared.actors.Actors.{Actors}
use Rattle.world.specs.declared.client.Client.{Client}
use Rattle.world.specs.Slots.{node_at}
use Rattle.world.specs.Homes.{nodes_of}
use Rattle.world.specs.Clients.{client_plan, client_volume, seen_client, client_in, client_or_unborn, clients_of, IsClientOf, IsPut}
use Rattle.world.specs.Actions.{client_acted, client_after_growth, client_does, message_found, named_in}
use Rattle.world.specs.Actors.{plan_of, messages_in, world_of, Steps}
use Rattle.world.specs.Moves.{ClientMoves}
use Rattle.world.proofs.ClientTable.{client_put, clients_on, same_client, same_clients}
use Rattle.world.proofs.Moving.{judged_moves, made_result}
use Rattle.world.proofs.Steps.{client_steps}
use Rattle.world.proofs.actors.Actors.absent_step.Goals as goal
use Rattle.std.proofs.lemmas.Grind.{common_steps}
use Rattle.std.proofs.Common.{arith}

-- a client that isn't there and refuses leaves the world as it is
refused_steps : (self : Actors) (volume : ℕ) (late : Fault → Bool) (defined : ClientAnswer) (fault : Fault)
    → client_in self.clients.items volume ≡ None
    → ClientMoves late defined unborn (messages_in self) (Err fault) unborn (messages_in self)
    → Steps late (of_client (world_of self) volume defined) (world_of self) (Err fault) (world_of self)
refused_steps self volume late defined fault absent moves = grind (arith, common_steps)

-- the message that is found in a slice of all messages
found_in_slice : (self : Actors) (action : ClientAction) (slice : List Message) (found : Option model_message.Message)
    → found ≡ named_in (added (messages_of slice) []) action → slice ≡ self.messages.items
    → found ≡ named_in (messages_in self) action
found_in_slice self action slice found is same = grind (arith, common_steps)

pub returns-in_err-admits-clause-steps : goal.returns-in_err-admits-clause-steps
returns-in_err-admits-clause-steps c = grind (arith, common_steps, c.named-found.ensures, c.as_slice.ensures.value, c.deref.ensures, c.requires.actors.plan, c.in_err-admits.ensures.answers, c.from_residual.ensures.1, c.requires.absent, found_in_slice, Err, err_from_is_err_and, refused_steps, judged_moves)

pub returns-in_err-made-clause-steps : goal.returns-in_err-made-clause-steps
returns-in_err-made-clause-steps c = grind (arith, common_steps)

pub returns-clause-steps : goal.returns-clause-steps
returns-clause-steps c =
    let self = c.args.self.now in
    let born : Client = c.act.new.self in
    let kept : List Message = self.messages.items in
    let made : List Message = listed c.in_ok-made.made in
    let home : Box Client = c.in_ok-new.field-0 in
    let inside : home.value ≡ born = c.in_ok-new.ensures.ok in
    let is : IsPut self.clients.items c.args.volume home c.keep.new.clients.items = c.in_ok-keep.ensures.kept in
    let put_is : put (clients_of self.clients.items) c.args.volume (seen_client born) ≡ clients_of c.keep.new.clients.items = ap (λ (cl : Client). put (clients_of self.clients.items) c.args.volume (seen_client cl)) (sym inside) ∙ client_put self.clients.items c.keep.new.clients.items c.args.volume home is in
    let found : message_found c.named-found.result ≡ named_in (messages_in self) c.args.action = c.named-found.ensures ∙ ap (λ (ms : List Message). named_in (added (messages_of ms) []) c.args.action) c.as_slice.ensures.value in
    let defined : ClientAnswer = client_does (messages_in self) c.args.action (plan_of self) c.args.volume unborn in
    let new : Client = c.unborn-client.result in
    let cloned : checked_model (arc_value c.in_ok-clone.field-0) ≡ checked_model (arc_value self.plan) = search rules in
    let asked : defined ≡ client_acted (message_found c.named-found.result) c.args.action (client_plan new) (client_volume new) (seen_client new) = grind (arith, common_steps) in
    let steps : defined ≡ Ok (answered c.in_ok-made.made (seen_client born)) = asked ∙ c.in_ok-made.ensures.answers in
    client_steps (authority_of self.authority) (node_at (plan_of self) (nodes_of self.nodes.items)) (clients_of self.clients.items) (messages_in self) c.args.volume (client_after_growth c.args.action) defined unborn (seen_client born) (ap client_or_unborn c.requires.absent)
    (clients_of c.keep.new.clients.items) put_is (Ok c.enter.result) (added (messages_of c.enter.new.messages.items) [])
    (made_result (λ (step : ClientStep). step.made) (λ (step : ClientStep). step.client) kept c.enter.new.messages.items made defined (answered c.in_ok-made.made (seen_client born)) (seen_client born) c.enter.result
    steps refl refl c.enter.ensures.count (c.enter.ensures.added ∙ ap (λ (ms : List Message). ms ++ made) c.in_ok-reserve.ensures.items))

pub returns-clause-good : goal.returns-clause-good
returns-clause-good c =
    let self = c.args.self.now in
    let new : Client = c.unborn-client.result in
    let born : Client = c.act.new.self in
    let home : Box Client = c.in_ok-new.field-0 in
    let inside : home.value ≡ born = c.in_ok-new.ensures.ok in
    let is : IsPut self.clients.items c.args.volume home c.keep.new.clients.items = c.in_ok-keep.ensures.kept in
    let cloned : checked_model (arc_value c.in_ok-clone.field-0) ≡ checked_model (arc_value self.plan) = search rules in
    let own : IsClientOf (plan_of self) c.args.volume new = record { plan_is = c.unborn-client.ensures.own.plan_is ∙ cloned ∙ c.requires.actors.plan; volume_is = c.unborn-client.ensures.own.volume_is } in
    record {
      plan = c.requires.actors.plan;
      homes = c.requires.actors.homes;
      low = c.requires.actors.low;
      clients = clients_on self.clients.items c.keep.new.clients.items c.args.volume home is (plan_of self) c.requires.actors.clients
          (subst (IsClientOf (plan_of self) c.args.volume) (sym inside) (same_client (plan_of self) c.args.volume new born own c.act.ensures.same));
    }

pub returns-in_err-keep-clause-good : goal.returns-in_err-keep-clause-good
returns-in_err-keep-clause-good c = search (rules, c.requires.actors.plan, c.requires.actors.homes, c.requires.actors.low, c.in_err-keep.ensures.same, c.requires.actors.clients, same_clients)

pub returns-in_err-keep-clause-steps : goal.returns-in_err-keep-clause-steps
returns-in_err-keep-clause-steps c = grind (arith, common_steps)
