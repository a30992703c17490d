-- A refusal of a client, as a call of a handle that holds it.
use Rattle.std.proofs.Common.{◌≡◌, ℕ, List, Bool, Option, Some, Result, Err, refl, sym, ap, ◌∙◌, subst}
use Rattle.volume_model.specs.Common.{AnswersAfterGrowth, Fails, number_of, Plan, ClientAnswer}
use Rattle.volume_model.specs.Message as model
use Rattle.volume_model.specs.Client as client
use Rattle.volume_model.specs.declared.fault.Fault.{Fault}
use Rattle.volume_model.specs.declared.fault.Fault.TheVariants.{NoMemory}
use Rattle.message_bytes.proofs.Handed.{Fails-at}
use Rattle.world.specs.declared.client.Client.{Client}
use Rattle.world.specs.Clients.{client_plan, client_volume, seen_client, IsSameClient}
use Rattle.volume_c.specs.declared.actor.Actor.{Actor}
use Rattle.volume_c.specs.declared.actor.Actor.TheVariants as actor
use Rattle.volume_c.specs.declared.actor.Held.{Held}
use Rattle.volume_c.specs.declared.outbox.Outbox.{Outbox}
use Rattle.volume_c.specs.View.{View, AClient, view_of, seen, unsent}
use Rattle.volume_c.specs.Calls.{client_step, client_does, Does}
use Rattle.volume_c.proofs.Statuses.{number-some}

-- a refused answer is the refusal that is defined, and leaves the actor as it was
pub failed : {R S T : Type 0} (late : Fault → Bool) (step : R → S → T) (fault : Fault) (defined : Result T Fault)
    (old new : S) → AnswersAfterGrowth late step defined old (Err fault) new → Fails fault defined × (new ≡ old)
failed late step NoMemory defined old new h = (tt, h.1)
failed late step fault defined old new h = h

-- a refusal of the model
fails : (defined : Result (List model.Message × View) Fault) (fault : Fault) (status : ℕ) (old new : Option Held)
    → status ≡ number_of fault → Fails fault defined → seen new ≡ seen old → unsent new ≡ unsent old
    → Does (Some defined) status old new
fails defined fault status old new number refuses same left = record {
  ok = λ none. absurd (number-some fault (sym number ∙ none));
  unchanged = λ _. (same, left);
  refused = λ _ _. (fault, number, refuses);
}

abbrev held : Actor → Outbox → Option Held
held a box = Some (record { actor = a; outbox = box })

-- a client that refuses
module _ (act : Plan → ℕ → client.Client → ClientAnswer) (a : Actor) (s t : Client) (before : Outbox) (is : a ≡ actor.Client s) (same : IsSameClient s t) where
  abbrev answer : ClientAnswer
  answer = act (client_plan s) (client_volume s) (seen_client s)

  pub client-failed : (fault : Fault) (status : ℕ) → status ≡ number_of fault → Fails fault answer × (seen_client t ≡ seen_client s)
      → Does (client_does act (view_of a)) status (held a before) (held (actor.Client t) before)
  client-failed fault status number refuses =
      let view : view_of (actor.Client t) ≡ view_of (actor.Client s) = λ i. AClient (same.plan_is i) (same.volume_is i) (refuses.1 i) in
      let result = client_step (client_plan s) (client_volume s) answer in
      let lifted : Fails fault result = Fails-at fault answer result (λ e. ap (client_step (client_plan s) (client_volume s)) e) refuses.0 in
      subst (λ (x : Actor). Does (client_does act (view_of x)) status (held x before) (held (actor.Client t) before)) (sym is)
      (fails result fault status (held (actor.Client s) before) (held (actor.Client t) before) number lifted view refl)
