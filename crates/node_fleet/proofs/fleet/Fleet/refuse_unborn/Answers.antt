use Rattle.std.proofs.Common.{◌≡◌, length, sym, ap, ◌∙◌}
use Rattle.plan.specs.Common.{checked_model}
use Rattle.volume_model.specs.Common.{Actor, world_at}
use Rattle.world.specs.Clients.{client_plan, client_volume, seen_client}
use Rattle.world.specs.Events.{event_of}
use Rattle.journal.specs.Passes.{journal_of}
use Rattle.world.specs.Actions.{action_event, client_acted, client_event, message_found}
use Rattle.node_fleet.proofs.Acting.{event_is, refuses_alike, Acts}
use Rattle.node_fleet.proofs.Exactly.{exact_of}
use Rattle.node_fleet.proofs.fleet.Fleet.refuse_unborn.Goals as goal

pub refused-requires-clause-exact : goal.refused-requires-clause-exact
refused-requires-clause-exact g c =
    let plan = g.L.Site.plan in
    let client = c.unborn-client.result in
    let volume = client_volume client in
    let action = c.in-Client.action in
    let found = message_found c.args.found in
    let es = journal_of c.args.log.now in
    let w = world_at plan es in
    let old = seen_client client in
    let event = event_of c.args.event in
    let own = c.unborn-client.ensures.own in
    let here : w.clients volume ≡ old = ap w.clients own.volume_is ∙ c.requires.unborn ∙ sym c.unborn-client.ensures.client in
    let who = c.requires.who ∙ ap Actor.Client (sym own.volume_is) in
    let split = sym (ap action_event c.in-Client.is) ∙ c.split.ensures in
    let is : event ≡ client_event volume action = event_is event volume c.in-Client.field-0 action split who in
    let of : client_plan client ≡ plan = own.plan_is ∙ ap checked_model c.in-Ok.ensures.cases ∙ c.args.self.now.plan_is in
    let acts : Acts plan (client_plan client) w volume action found old event = record { of = of; here = here; is = is; heard = c.requires.found } in
    exact_of plan g.L.Site.slots (length g.L.Site.cells) es event ⊥ c.is_full.result
    (client_acted found action (client_plan client) volume old) (λ h. absurd h) c.is_full.ensures (refuses_alike acts)
    c.in-Err-try_step.fault c.in-Err-try_step.ensures.refused
