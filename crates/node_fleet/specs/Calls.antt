-- How a call of a fleet changes the pass of its caller.
use Rattle.std.specs.Prelude.{◌≡◌, ℕ, Bool, true, false, List, [], ◌∷◌, ◌++◌, All, Some, Result, Ok, Err}
use Rattle.volume_model.specs.declared.fault.Fault.{Fault}
use Rattle.volume_model.specs.declared.fault.Fault.TheVariants.{NoMessage}
use Rattle.volume_model.specs.Common.{Plan, is_named, Event, Deliver, Hydrate, Restart, Offer, Open, Take, named_by, Refusal}
use Rattle.board.specs.declared.BoardStep.{BoardStep}
use Rattle.board.specs.declared.BoardStep.TheVariants.{Raised}
use Rattle.journal.specs.declared.entry.Receipt.{Receipt}
use Rattle.journal.specs.declared.pass.Pass.{Pass}
use Rattle.journal.specs.declared.row.Site.{Ghosts as SiteGhosts}
use Rattle.journal.specs.Passes.{AddsStep, notes_of, steps_of}
use Rattle.journal.specs.PassSteps.{IsElse, Made}
use Rattle.node_fleet.specs.RecordsAttempt.{AddsNote}

-- the pass has one more step, with this event and as the receipt says, or a note of the refusal
abbrev pub RecordsCall : Event → Result Receipt Fault → List Made → List Made → List Refusal → List Refusal → Type 0
RecordsCall event (Ok r) steps steps' notes notes' = AddsStep event r steps steps' × (notes' ≡ notes)
RecordsCall event (Err fault) steps steps' notes notes' = (steps' ≡ steps) × AddsNote event fault steps notes notes'

-- the same for a pass before and after the call
abbrev pub PassRecordsCall : {X : Type 0} {s : SiteGhosts X} → Event → Result Receipt Fault → Pass X s → Pass X s
    → Type 0
PassRecordsCall event result old new = RecordsCall event result (steps_of old) (steps_of new) (notes_of old)
    (notes_of new)

-- if the fault is NoMessage, none of these steps made the message
abbrev pub Unmade : ℕ → List Made → Fault → Type 0
Unmade number steps fault = fault ≡ NoMessage → All (IsElse number) steps

-- the event is of a node that the plan doesn't name
abbrev pub IsOfNone : Plan → Event → Type 0
IsOfNone plan (Deliver group member number) = is_named plan group member ≡ false
IsOfNone plan (Hydrate group member) = is_named plan group member ≡ false
IsOfNone plan (Restart group member) = is_named plan group member ≡ false
IsOfNone plan (Offer group member lsn) = is_named plan group member ≡ false
IsOfNone plan event = ⊥

-- whether an event may move the durable point of its client
abbrev pub is_moving : Event → Bool
is_moving (Take volume number) = true
is_moving (Open volume) = true
is_moving event = false

-- a client's step raises the board to the client's durable point if it may move that
abbrev pub RaisesBy : Event → ℕ → List BoardStep → List BoardStep → Type 0
RaisesBy (Take volume number) durable seat seat' = seat' ≡ seat ++ Raised durable ∷ []
RaisesBy (Open volume) durable seat seat' = seat' ≡ seat ++ Raised durable ∷ []
RaisesBy event durable seat seat' = seat' ≡ seat

-- the event names a message, which none of these steps made
abbrev pub NamesElse : Event → List Made → Type 0
NamesElse event steps = (number : ℕ) × (named_by event ≡ Some number) × All (IsElse number) steps
