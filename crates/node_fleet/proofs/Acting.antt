-- The step of a client, in the world.
use Rattle.std.proofs.Common.{◌≡◌, ℕ, Bool, eq-eqb, List, Option, Some, Result, Ok, Err, MatchResult, IfOk, OnErr, OnOk, refl, sym, ap, ◌∙◌, subst, if◌then◌else◌}
use Rattle.volume_model.specs.declared.fault.Fault.{Fault}
use Rattle.volume_model.specs.Common.{makes, refusal, put, Plan, ClientAnswer, World, Event, Step, after, after_step, of_client, step, take, Actor, actor_of, Agree, world_at}
use Rattle.volume_model.specs.Message as model
use Rattle.volume_model.specs.Client.{Client}
use Rattle.volume_model.specs.Journal.{Entry}
use Rattle.wire.specs.declared.messages.Messages.{Messages}
use Rattle.wire.specs.Common.{listed, messages_of}
use Rattle.writer_core.specs.Writers.{answered}
use Rattle.world.specs.declared.actions.ClientAction.{ClientAction}
use Rattle.world.specs.declared.actions.ClientAction.TheVariants as action
use Rattle.world.specs.Actions.{client_acted, client_event}
use Rattle.journal.specs.PassSteps.{durable_in, durable_of}
use Rattle.node_fleet.specs.Actions.{action_durable, IsFound}

-- the refusal of a client's step is the client's
of_client-refusal : (w : World) (volume : ℕ) (answer : ClientAnswer) → refusal (of_client w volume answer) ≡ refusal answer
of_client-refusal w volume (Err fault) = refl
of_client-refusal w volume (Ok s) = refl

put-here : {A : Type 0} (f : ℕ → A) (at : ℕ) (x : A) → put f at x at ≡ x
put-here f at x = ap (λ (b : Bool). if b then x else f at) (eq-eqb at at refl)

-- both are one client, as the mark of its actor says
pub client_here : (actor : Actor) (volume : ℕ) (w v : World) (now : Client) → actor ≡ Actor.Client volume → Agree actor w v → now ≡ w.clients volume → v.clients volume ≡ now
client_here actor volume w v now is agree seen = sym (seen ∙ subst (λ (a : Actor). Agree a w v) is agree)

-- whose step it is
event_of_client : (volume : ℕ) (asked : ClientAction)
    → actor_of (client_event volume asked) ≡ Actor.Client volume
event_of_client volume (action.Issue changes) = refl
event_of_client volume asked = refl

-- the event of a client's action is that of this client
pub event_is : (event : Event) (volume own : ℕ) (asked : ClientAction) → client_event own asked ≡ event
    → actor_of event ≡ Actor.Client volume → event ≡ client_event volume asked
event_is event volume own asked is who =
    let named : Actor.Client own ≡ Actor.Client volume = sym (event_of_client own asked) ∙ ap actor_of is ∙ who in
    let same : own ≡ volume = cc in
    sym is ∙ ap (λ v. client_event v asked) same

-- the durable point that a client's step shows
client_shows : (volume : ℕ) (asked : ClientAction) (w : World) (now : Client) → w.clients volume ≡ now
    → action_durable asked now ≡ durable_in w (client_event volume asked)
client_shows volume (action.Take message) w now is = ap durable_of (sym is)
client_shows volume action.Open w now is = ap durable_of (sym is)
client_shows volume asked w now is = refl

-- the step of an action is that of the client's answer
action_step : (plan : Plan) (w : World) (volume : ℕ) (asked : ClientAction) (found : Option model.Message)
    → IsFound w.messages (client_event volume asked) found
    → step plan w (client_event volume asked)
    ≡ of_client w volume (client_acted found asked plan volume (w.clients volume))
action_step plan w volume (action.Take message) found is = ap (λ (o : Option model.Message). of_client w volume (take plan volume (w.clients volume) o)) is.1
action_step plan w volume asked found is = refl

-- the event is an action of a client of this plan, in a world that has the client and, for a Take, the message
pub record Acts (plan own : Plan) (w : World) (volume : ℕ) (asked : ClientAction) (found : Option model.Message)
    (old : Client) (event : Event) : Type 0 where
  pub of : own ≡ plan
  pub here : w.clients volume ≡ old
  pub is : event ≡ client_event volume asked
  pub heard : IsFound w.messages event found

module _ {plan own : Plan} {w : World} {volume : ℕ} {asked : ClientAction} {found : Option model.Message} {old : Client}
    {event : Event} (acts : Acts plan own w volume asked found old event) where
  abbrev pub answer : ClientAnswer
  answer = client_acted found asked own volume old

  whole : step plan w event ≡ of_client w volume answer
  whole = ap (step plan w) acts.is ∙ action_step plan w volume asked found
      (subst (λ (e : Event). IsFound w.messages e found) acts.is acts.heard)
      ∙ λ i. of_client w volume (client_acted found asked (sym acts.of i) volume (acts.here i))

  pub refuses_alike : refusal (step plan w event) ≡ refusal answer
  refuses_alike = ap refusal whole ∙ of_client-refusal w volume answer

  module _ (new : Client) (made : Messages) (done : answer ≡ Ok (answered made new)) where
    stepped : step plan w event ≡ of_client w volume (Ok (answered made new))
    stepped = whole ∙ ap (of_client w volume) done

    client_makes : makes (step plan w event) ≡ Some (messages_of (listed made))
    client_makes = ap makes stepped

    client_after : (after plan w event).clients volume ≡ new
    client_after = ap (λ (s : Result Step Fault). (after_step w s).clients volume) stepped ∙ put-here w.clients volume new

  module _ (new : Client) where
    pub attempt_makes : (attempt : Result Messages Fault) → IfOk attempt (λ made. answer ≡ Ok (answered made new)) → IfOk attempt (λ made. makes (step plan w event) ≡ Some (messages_of (listed made)))
    attempt_makes (Ok made) done = client_makes new made done
    attempt_makes (Err fault) done = tt

    pub attempt_durable : (attempt : Result Messages Fault) → IfOk attempt (λ made. answer ≡ Ok (answered made new))
        → (durable : ℕ) → durable ≡ action_durable asked new
        → OnOk attempt (durable ≡ durable_in (after plan w event) event)
    attempt_durable (Ok made) done durable shown =
        shown ∙ client_shows volume asked (after plan w event) new (client_after new made done)
        ∙ ap (durable_in (after plan w event)) (sym acts.is)
    attempt_durable (Err fault) done durable shown = tt

    -- what the actor's mark has seen then has the client as it is
    pub attempt_state : (attempt : Result Messages Fault) → IfOk attempt (λ made. answer ≡ Ok (answered made new)) → OnErr attempt (new ≡ old) → (seen now : List Entry) → old ≡ (world_at plan seen).clients volume
        → MatchResult attempt (λ made. world_at plan now ≡ after plan w event) (λ fault. now ≡ seen) → new ≡ (world_at plan now).clients volume
    attempt_state (Ok made) done still seen now was stands = sym (ap (λ (v : World). v.clients volume) stands ∙ client_after new made done)
    attempt_state (Err fault) done still seen now was stands = still ∙ was ∙ ap (λ (es : List Entry). (world_at plan es).clients volume) (sym stands)
