-- What an attempt of an actor's action shows.
use Rattle.std.specs.Prelude.{◌≡◌, Bool, true, List, Result, Ok, Err}
use Rattle.volume_model.specs.declared.fault.Fault.{Fault}
use Rattle.volume_model.specs.declared.fault.Fault.TheVariants.{NoMemory, NoMessage, NoSlot, JournalFull}
use Rattle.volume_model.specs.Common.{refusal_of, Message, Authority, AuthorityStep}

-- The refusal is the defined one. NoSlot says that the slots are used up, JournalFull that no cell is left, both only
-- if the definition refuses nothing. NoMemory says nothing.
abbrev pub Judged : {T : Type 0} → Type 0 → Bool → Result T Fault → Fault → Type 0
Judged spent full defined NoMemory = Unit {0}
Judged spent full defined NoMessage = ⊥
Judged spent full defined NoSlot = spent × (refusal_of defined ≡ Ok tt)
Judged spent full defined JournalFull = (full ≡ true) × (refusal_of defined ≡ Ok tt)
Judged spent full defined fault = defined ≡ Err fault

-- the same for actions that need no slot
abbrev pub JudgedOf : {T : Type 0} → Bool → Result T Fault → Fault → Type 0
JudgedOf full defined fault = Judged ⊥ full defined fault

-- the definition makes these messages, and leaves this authority
pub record IsDone (defined : Result AuthorityStep Fault) (made : List Message) (now : Authority) : Type 0 where
  pub step : AuthorityStep
  pub is : defined ≡ Ok step
  pub makes : made ≡ step.made
  pub leaves : now ≡ step.authority
