-- The step of the authority, in the world.
use Rattle.std.proofs.Common.{◌≡◌, ℕ, List, Result, Ok, Err, MatchResult, IfOk, OnErr, refl, sym, ap, ◌∙◌, subst}
use Rattle.volume_model.specs.declared.fault.Fault.{Fault}
use Rattle.volume_model.specs.Common.{refusal, Plan, Authority, AuthorityStep, Event, Step, World, after, after_step, of_authority, step, Actor, Agree, world_at}
use Rattle.volume_model.specs.Journal.{Entry}
use Rattle.wire.specs.declared.messages.Messages.{Messages}
use Rattle.wire.specs.Common.{listed, messages_of}
use Rattle.world.specs.declared.actions.AuthorityAction.{AuthorityAction}
use Rattle.world.specs.declared.actions.AuthorityAction.TheVariants as action
use Rattle.world.specs.Actions.{authority_acted, authority_event}
use Rattle.world.proofs.ActorSteps.{authority_step}
use Rattle.node_fleet.specs.Actions.{IsSpent}
use Rattle.node_fleet.specs.Attempts.{IsDone}

of_authority-refusal : (w : World) (answer : Result AuthorityStep Fault) → refusal (of_authority w answer) ≡ refusal answer
of_authority-refusal w (Err fault) = refl
of_authority-refusal w (Ok s) = refl

-- the authority of both worlds, as its actor's mark says
pub authority_here : (actor : Actor) (w v : World) (now : Authority) → actor ≡ Actor.TheAuthority → Agree actor w v → now ≡ w.authority → v.authority ≡ now
authority_here actor w v now is agree seen = sym (seen ∙ subst (λ (a : Actor). Agree a w v) is agree)

-- an authority of this plan that is asked refuses what the step refuses
pub authority_refuses : (plan own : Plan) → own ≡ plan → (w : World) (asked : AuthorityAction) (old : Authority)
    (event : Event) → w.authority ≡ old → event ≡ authority_event asked
    → refusal (step plan w event) ≡ refusal (authority_acted own old asked)
authority_refuses plan own of w asked old event here is =
    ap refusal (ap (step plan w) is ∙ authority_step plan w asked) ∙ of_authority-refusal w (authority_acted plan w.authority asked) ∙ λ i. refusal (authority_acted (sym of i) (here i) asked)

-- what the slots' being spent says of the world
pub slots_spent : (w : World) (asked : AuthorityAction) (old : Authority) (event : Event) (given slots : ℕ)
    → w.authority ≡ old → event ≡ authority_event asked → given ≡ slots → IsSpent asked old given
    → (event ≡ Event.Assign) × (w.authority.last_volume ≡ slots)
slots_spent w action.Assign old event given slots here is same spent =
    (is, ap (λ (a : Authority). a.last_volume) here ∙ spent ∙ same)
slots_spent w asked old event given slots here is same spent = absurd spent

-- what the actor's mark has seen then has the authority as it is
pub ruled_state : (plan own : Plan) → own ≡ plan → (w : World) (asked : AuthorityAction) (old new : Authority)
    (event : Event) → w.authority ≡ old → event ≡ authority_event asked → (attempt : Result Messages Fault)
    → IfOk attempt (λ made. IsDone (authority_acted own old asked) (messages_of (listed made)) new) → OnErr attempt (new ≡ old) → (seen now : List Entry) → old ≡ (world_at plan seen).authority
    → MatchResult attempt (λ made. world_at plan now ≡ after plan w event) (λ fault. now ≡ seen) → new ≡ (world_at plan now).authority
ruled_state plan own of w asked old new event here is (Ok made) done still seen now was stands =
    let acted : authority_acted plan w.authority asked ≡ Ok done.step = (λ i. authority_acted (sym of i) (here i) asked) ∙ done.is in
    let whole : step plan w event ≡ of_authority w (Ok done.step) = ap (step plan w) is ∙ authority_step plan w asked ∙ ap (of_authority w) acted in
    done.leaves ∙ sym (ap (λ (v : World). v.authority) stands ∙ ap (λ (s : Result Step Fault). (after_step w s).authority) whole)
ruled_state plan own of w asked old new event here is (Err fault) done still seen now was stands = still ∙ was ∙ ap (λ (es : List Entry). (world_at plan es).authority) (sym stands)
