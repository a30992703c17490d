use Rattle.std.proofs.Common.{◌≡◌, List, length, sym, ap, ◌∙◌, subst, rules}
use Rattle.volume_model.specs.Common.{Actor, world_at}
use Rattle.volume_model.specs.Journal.{Entry}
use Rattle.world.specs.Clients.{client_plan, client_volume, seen_client}
use Rattle.world.specs.Events.{event_of}
use Rattle.journal.specs.Passes.{journal_of, marked, seen_at}
use Rattle.world.specs.Actions.{action_event, client_acted, message_found}
use Rattle.node_fleet.specs.Actions.{IsFound}
use Rattle.node_fleet.proofs.Acting.{client_here, event_is, refuses_alike, attempt_durable, attempt_makes, attempt_state, Acts}
use Rattle.node_fleet.proofs.Exactly.{attempt_exact}
use Rattle.node_fleet.proofs.client.ClientActor.step.Given.{Over}
use Rattle.node_fleet.proofs.client.ClientActor.step.Goals as goal
use Rattle.node_fleet.proofs.client.ClientActor.step.Goals.{After-shown-durable}

-- the client makes the event's action
acts : (g : Over) (c : After-shown-durable g) → let plan = g.L.Site.plan in let client = c.args.self.now.client in
    Acts plan (client_plan client) (world_at plan (journal_of c.reserve_step.new.log)) (client_volume client)
    c.in-Client.action (message_found c.args.found) (seen_client client) (event_of c.args.event)
acts g c =
    let self = c.args.self.now in
    let plan = g.L.Site.plan in
    let volume = client_volume self.client in
    let w = world_at plan (journal_of c.reserve_step.new.log) in
    let event = event_of c.args.event in
    let found = message_found c.args.found in
    record {
      of = self.plan;
      here = client_here (marked self.cursor) volume (world_at plan (seen_at self.cursor)) w (seen_client self.client) self.who c.in_default.ensures.agree self.state;
      is = event_is event volume c.in-Client.field-0 c.in-Client.action (sym (ap action_event c.in-Client.is) ∙ c.split.ensures) c.requires.who;
      heard = subst (λ (l : List Entry). IsFound (world_at plan l).messages event found) (sym c.reserve_step.ensures.log) c.requires.found;
    }

pub commit_or_note-requires : goal.commit_or_note-requires
commit_or_note-requires g c =
    let client = c.args.self.now.client in
    let new = seen_client c.try_step-done.new.client in
    let it = acts g (goal.at.commit_or_note-requires g c).After-shown-durable in
    record {
      who = search rules;
      ready = search rules;
      goes = attempt_makes it new c.try_step-done.result c.try_step-done.ensures.done;
      durable = attempt_durable it new c.try_step-done.result c.try_step-done.ensures.done c.shown-durable.result
          c.shown-durable.ensures;
      cell = search rules;
      exact = attempt_exact g.L.Site.plan g.L.Site.slots (length g.L.Site.cells) (journal_of c.reserve_step.new.log)
          (event_of c.args.event) ⊥ c.is_full.result (client_acted (message_found c.args.found) c.in-Client.action
          (client_plan client) (client_volume client) (seen_client client)) (λ h. absurd h) c.is_full.ensures
          (refuses_alike it) c.try_step-done.result c.try_step-done.ensures.refused;
    }

pub invariant_of-self-2 : goal.invariant_of-self-2
invariant_of-self-2 g c =
    let self = c.args.self.now in
    let plan = g.L.Site.plan in
    let new = seen_client c.try_step-done.new.client in
    let same = c.try_step-done.ensures.same in
    let seen = c.commit_or_note.new.cursor in
    let was = self.state ∙ ap (λ (l : List Entry). (world_at plan l).clients (client_volume self.client)) (sym c.reserve_step.ensures.cursor.2) in
    let now = attempt_state (acts g (goal.at.invariant_of-self-2 g c).After-shown-durable) new c.try_step-done.result c.try_step-done.ensures.done c.try_step-done.ensures.still (seen_at c.reserve_step.new.cursor) (seen_at seen) was c.commit_or_note.ensures.seen in
    record {
      who = c.commit_or_note.ensures.cursor ∙ c.reserve_step.ensures.cursor.0 ∙ self.who ∙ ap Actor.Client (sym same.volume_is);
      plan = same.plan_is ∙ self.plan;
      state = subst (λ v. new ≡ (world_at plan (seen_at seen)).clients v) (sym same.volume_is) now;
    }
