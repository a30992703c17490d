-- The result of one actor's step, and the actor after it.
use Rattle.std.specs.Prelude.{ℕ, Bool, List, length, Result, Ok, Err}
use Rattle.volume_model.specs.declared.fault.Fault.{Fault}
use Rattle.volume_model.specs.Common.{never_after_growth, AnswersAfterGrowth, added, Message, NodeAnswer, NodeStep, ClientAnswer, ClientStep, Authority, AuthorityStep}
use Rattle.volume_model.specs.Node.{Node}
use Rattle.volume_model.specs.Client.{Client}

-- the number of messages that a step made, the actor after it, and all messages
pub record StepResult (S : Type 0) : Type 0 where
  pub count : ℕ
  pub actor : S
  pub messages : List Message

-- the same for a step that is defined; kept are the messages made before it
abbrev pub result_of_step : {T S : Type 0} → (T → List Message) → (T → S) → List Message → Result T Fault
    → Result (StepResult S) Fault
result_of_step made actor kept (Err fault) = Err fault
result_of_step made actor kept (Ok step) = Ok (record {
  count = length (made step);
  actor = actor step;
  messages = added
      (made step) kept;
})

-- an actor, and all messages
pub record ActorState (S : Type 0) : Type 0 where
  pub actor : S
  pub messages : List Message

-- this many messages were made, and this is the actor with all messages
abbrev pub counted : {S : Type 0} → ℕ → ActorState S → StepResult S
counted count now = record { count = count; actor = now.actor; messages = now.messages }

-- The answer to a step of an actor. The defined step was made and its messages were added; or, after a refusal or if
-- memory ran out, the actor and the messages are unchanged. Running out of memory comes after all refusals except late
-- ones.
abbrev pub Moves : {T S : Type 0} → (T → List Message) → (T → S) → (Fault → Bool) → Result T Fault → S → List Message
    → Result ℕ Fault → S → List Message → Type 0
Moves made actor late defined old kept result new now =
    AnswersAfterGrowth late counted (result_of_step made actor kept defined) (record { actor = old; messages = kept })
    result (record { actor = new; messages = now })

-- the same for a node
abbrev pub NodeMoves : (Fault → Bool) → NodeAnswer → Node → List Message → Result ℕ Fault → Node → List Message → Type 0
NodeMoves late defined old kept result new now = Moves (λ (s : NodeStep). s.made) (λ (s : NodeStep). s.node) late
    defined old kept result new now

-- the same for a client
abbrev pub ClientMoves : (Fault → Bool) → ClientAnswer → Client → List Message → Result ℕ Fault → Client → List Message
    → Type 0
ClientMoves late defined old kept result new now = Moves (λ (s : ClientStep). s.made) (λ (s : ClientStep). s.client)
    late defined old kept result new now

-- the same for the authority
abbrev pub AuthorityMoves : Result AuthorityStep Fault → Authority → List Message → Result ℕ Fault → Authority
    → List Message → Type 0
AuthorityMoves defined old kept result new now = Moves (λ (s : AuthorityStep). s.made)
    (λ (s : AuthorityStep). s.authority) never_after_growth defined old kept result new now
