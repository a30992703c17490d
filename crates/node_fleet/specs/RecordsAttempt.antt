-- How a step under both locks changes a pass, and what its refusal says.
use Rattle.std.specs.Prelude.{◌≡◌, ℕ, List, [], ◌∷◌, ◌++◌, Result, Ok, Err}
use Rattle.volume_model.specs.declared.fault.Fault.{Fault}
use Rattle.volume_model.specs.Common.{Plan, Event, Exact, IsNoted, Refusal}
use Rattle.volume_model.specs.Journal.{Entry}
use Rattle.journal.specs.declared.entry.Receipt.{Receipt}
use Rattle.journal.specs.declared.pass.Pass.{Pass}
use Rattle.journal.specs.declared.row.Site.{Ghosts as SiteGhosts}
use Rattle.journal.specs.Passes.{AddsStep, AddsRefusal, notes_of, steps_of}
use Rattle.journal.specs.PassSteps.{Made}
use Rattle.node_fleet.specs.declared.halt.Halt.{Halt}
use Rattle.node_fleet.specs.declared.halt.Halt.TheVariants.{StaleCursor, Refused}

-- a refusal is noted, unless memory ran out or the message doesn't exist
pub record AddsNote (event : Event) (fault : Fault) (steps : List Made) (before after : List Refusal) : Type 0 where
  pub noted : IsNoted fault → AddsRefusal event fault steps before after
  pub silent : (IsNoted fault → ⊥) → after ≡ before

-- how a step under both locks changes a pass
abbrev pub RecordsAttempt : Event → Result Receipt Halt → List Made → List Made → List Refusal → List Refusal → Type 0
RecordsAttempt event (Ok r) steps steps' notes notes' = AddsStep event r steps steps' × (notes' ≡ notes)
RecordsAttempt event (Err StaleCursor) steps steps' notes notes' = (steps' ≡ steps) × (notes' ≡ notes)
RecordsAttempt event (Err (Refused fault)) steps steps' notes notes' = (steps' ≡ steps) × AddsNote event fault steps
    notes notes'

-- the same for a pass before and after the step
abbrev pub PassRecords : {X : Type 0} {s : SiteGhosts X} → Event → Result Receipt Halt → Pass X s → Pass X s → Type 0
PassRecords event result old new = RecordsAttempt event result (steps_of old) (steps_of new) (notes_of old)
    (notes_of new)

-- the refusal, if any, is the model's
abbrev pub IsExact : Plan → ℕ → ℕ → List Entry → Event → Result Receipt Halt → Type 0
IsExact plan slots cells es event (Ok r) = Unit {0}
IsExact plan slots cells es event (Err StaleCursor) = Unit {0}
IsExact plan slots cells es event (Err (Refused fault)) = Exact plan slots cells es event fault

-- the journal has one more entry, with the step's event, or is unchanged
abbrev pub Enters : Event → List Entry → List Entry → Result Receipt Halt → Type 0
Enters event es es' (Ok r) = (e : Entry) × (es' ≡ es ++ e ∷ []) × (e.event ≡ event)
Enters event es es' (Err halt) = es' ≡ es
