-- What the calls of a handle do.
use Rattle.std.specs.Prelude.{◌≡◌, ◌≢◌, ◌<◌, ℕ, List, [], Option, Some, None, Result, Ok, Err}
use Rattle.volume_model.specs.declared.fault.Fault.{Fault}
use Rattle.volume_model.specs.Common.{Fails, number_of, Plan, NodeAnswer, ClientAnswer, AuthorityStep}
use Rattle.volume_model.specs.Message as model
use Rattle.volume_model.specs.Node.{Node}
use Rattle.volume_model.specs.Client as client
use Rattle.volume_model.specs.World as world
use Rattle.message_bytes.specs.Reading.{message_in}
use Rattle.volume_c.specs.declared.actor.Held.{Held}
use Rattle.volume_c.specs.View.{View, Nothing, APlan, ANode, AClient, AnAuthority, ASnapshot, seen, unsent}

-- the defined result of a call that acts: the messages that it makes and the actor after it, or its refusal; None if
-- the handle doesn't hold such an actor
abbrev pub Step : Type 0
Step = Option (Result (List model.Message × View) Fault)

-- the defined result of a call that returns a value, in the same way
abbrev pub Value : Type 0 → Type 0
Value A = Option (Result A Fault)

-- the answer of a node, of a client and of the authority as such a result
abbrev pub node_step : Plan → ℕ → ℕ → NodeAnswer → Result (List model.Message × View) Fault
node_step plan group member (Err fault) = Err fault
node_step plan group member (Ok step) = Ok (step.made, ANode plan group member step.node)

abbrev pub client_step : Plan → ℕ → ClientAnswer → Result (List model.Message × View) Fault
client_step plan volume (Err fault) = Err fault
client_step plan volume (Ok step) = Ok (step.made, AClient plan volume step.client)

abbrev pub authority_step : Plan → Result AuthorityStep Fault → Result (List model.Message × View) Fault
authority_step plan (Err fault) = Err fault
authority_step plan (Ok step) = Ok (step.made, AnAuthority plan step.authority)

-- the value for a plan, a node, a client and the authority; None if the handle holds none
abbrev pub of_plan : {A : Type 0} → (Plan → Result A Fault) → View → Value A
of_plan give Nothing = None
of_plan give (APlan plan) = Some (give plan)
of_plan give (ANode plan group member node) = None
of_plan give (AClient plan volume client) = None
of_plan give (AnAuthority plan authority) = None
of_plan give (ASnapshot bytes) = None

abbrev pub of_node : {A : Type 0} → (Plan → ℕ → ℕ → Node → Result A Fault) → View → Value A
of_node give Nothing = None
of_node give (APlan plan) = None
of_node give (ANode plan group member node) = Some (give plan group member node)
of_node give (AClient plan volume client) = None
of_node give (AnAuthority plan authority) = None
of_node give (ASnapshot bytes) = None

abbrev pub of_client : {A : Type 0} → (Plan → ℕ → client.Client → Result A Fault) → View → Value A
of_client give Nothing = None
of_client give (APlan plan) = None
of_client give (ANode plan group member node) = None
of_client give (AClient plan volume client) = Some (give plan volume client)
of_client give (AnAuthority plan authority) = None
of_client give (ASnapshot bytes) = None

abbrev pub of_authority : {A : Type 0} → (Plan → world.Authority → Result A Fault) → View → Value A
of_authority give Nothing = None
of_authority give (APlan plan) = None
of_authority give (ANode plan group member node) = None
of_authority give (AClient plan volume client) = None
of_authority give (AnAuthority plan authority) = Some (give plan authority)
of_authority give (ASnapshot bytes) = None

-- the step of a node, a client and the authority
abbrev pub node_does : (Plan → ℕ → ℕ → Node → NodeAnswer) → View → Step
node_does act = of_node (λ plan group member node. node_step plan group member (act plan group member node))

abbrev pub client_does : (Plan → ℕ → client.Client → ClientAnswer) → View → Step
client_does act = of_client (λ plan volume client. client_step plan volume (act plan volume client))

abbrev pub authority_does : (Plan → world.Authority → Result AuthorityStep Fault) → View → Step
authority_does act = of_authority (λ plan authority. authority_step plan (act plan authority))

-- the step for this value, or its fault if there is none
abbrev pub with_value : {A : Type 0} → Result A Fault → (A → Step) → Step
with_value (Ok x) step = step x
with_value (Err fault) step = Some (Err fault)

-- the step for the message that the bytes encode
abbrev pub with_message : List ℕ → (model.Message → Step) → Step
with_message bytes step = with_value (message_in bytes) step

-- the status is the number of the defined fault, or 9 if memory ran out
abbrev pub IsRefusal : {A : Type 0} → ℕ → Value A → Type 0
IsRefusal status None = status ≡ 9
IsRefusal status (Some result) = (fault : Fault) × (status ≡ number_of fault) × Fails fault result

-- a status from 1 to 89 is the number of the defined refusal
abbrev pub Refuses : {A : Type 0} → Value A → ℕ → Type 0
Refuses defined status = status ≢ 0 → status < 90 → IsRefusal status defined

-- A call that acts. Status 0: it made the defined step, whose messages can now be taken; all earlier ones had been
-- taken. Any other: nothing has changed.
pub record Does (defined : Step) (status : ℕ) (old new : Option Held) : Type 0 where
  pub ok : status ≡ 0 → (defined ≡ Some (Ok (unsent new, seen new))) × (unsent old ≡ [])
  pub unchanged : status ≢ 0 → (seen new ≡ seen old) × (unsent new ≡ unsent old)
  pub refused : Refuses defined status

-- A call that fills an empty handle. Status 0: the handle holds the defined actor. Any other: nothing has changed.
pub record Makes (defined : Step) (status : ℕ) (old new : Option Held) : Type 0 where
  pub ok : status ≡ 0 → (defined ≡ Some (Ok (unsent new, seen new))) × (old ≡ None)
  pub unchanged : status ≢ 0 → new ≡ old
  pub refused : Refuses defined status

-- A call that returns a value. Status 0: it is the defined value. The handle's contents are the same in any case.
pub record Reads {A : Type 0} (defined : Value A) (value : A) (status : ℕ) (old new : Option Held) : Type 0 where
  pub ok : status ≡ 0 → defined ≡ Some (Ok value)
  pub refused : Refuses defined status
  pub same : (seen new ≡ seen old) × (unsent new ≡ unsent old)
