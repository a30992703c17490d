-- What an attempt says of the call.
use Rattle.std.proofs.Common.{◌≡◌, List, Result, Err, refl, ap, ◌∙◌, subst}
use Rattle.volume_model.specs.declared.fault.Fault.{Fault}
use Rattle.volume_model.specs.declared.fault.Fault.TheVariants.{NoMessage}
use Rattle.volume_model.specs.Common.{Event, Refusal}
use Rattle.journal.specs.declared.entry.Receipt.{Receipt}
use Rattle.journal.specs.PassSteps.{Made}
use Rattle.node_fleet.specs.declared.halt.Halt.{Halt}
use Rattle.node_fleet.specs.declared.halt.Halt.TheVariants.{Refused}
use Rattle.node_fleet.specs.RecordsAttempt.{RecordsAttempt}
use Rattle.node_fleet.specs.Calls.{NamesElse, RecordsCall}
use Rattle.node_fleet.specs.Volumes.{IsElsewhere, IsUnmade}

-- a message that is not there
pub names_else : (event : Event) (steps : List Made) → IsElsewhere event steps → NamesElse event steps
names_else (Event.Take volume message) steps h = (message, refl, h)
names_else event steps h = absurd h

-- a try that was refused
pub records_refused : (event : Event) (halt : Halt) (fault : Fault) (steps steps' : List Made) (notes notes' : List Refusal) → halt ≡ Refused fault → RecordsAttempt event (Err halt) steps steps' notes notes' → RecordsCall event (Err fault) steps steps' notes notes'
records_refused event halt fault steps steps' notes notes' is recorded = subst (λ (h : Halt). RecordsAttempt event (Err h) steps steps' notes notes') is recorded

-- a refusal for want of a message
pub lost_halt : (halt : Halt) (fault : Fault) → halt ≡ Refused fault → fault ≡ NoMessage → halt ≡ Refused NoMessage
lost_halt halt fault is lost = is ∙ ap Refused lost

-- the result of a message that is not there
pub unmade_names : (event : Event) (steps : List Made) (halt : Halt) → IsUnmade event steps (Err halt)
    → halt ≡ Refused NoMessage → NamesElse event steps
unmade_names event steps halt unmade is = names_else event steps
    (unmade (ap (λ (h : Halt). let r : Result Receipt Halt = Err h in r) is))
