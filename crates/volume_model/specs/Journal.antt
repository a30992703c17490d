-- Runs of the model as lists of journal entries.
use Rattle.std.specs.Prelude.{◌≡◌, ℕ, suc, if◌then◌else◌, List, [], ◌∷◌, length, map, take, Some, slice_get}
use Rattle.volume_model.specs.Plan.{Plan}
use Rattle.volume_model.specs.Message.{Message}
use Rattle.volume_model.specs.World.{World, Event, opening, step, run}
use Rattle.volume_model.specs.Actor.{Actor, actor_of, same_actor}
use Rattle.volume_model.specs.StepResults.{makes}

-- one step: its event, the messages that it made, and how many were made before
pub record Entry : Type 0 where
  pub event : Event
  pub made : List Message
  pub first : ℕ

-- the events of the entries
abbrev pub events : List Entry → List Event
events = map (λ e. e.event)

-- the world after these entries
abbrev pub world_at : Plan → List Entry → World
world_at plan es = run plan (opening plan) (events es)

-- the entry is a step of this world that makes these messages; its first is the number of messages made before it
abbrev pub Goes : Plan → World → Entry → Type 0
Goes plan w e = (makes (step plan w e.event) ≡ Some e.made) × (e.first ≡ length w.messages)

-- each entry is a step of the world after the entries before it, from the opening world on
abbrev pub IsRun : Plan → List Entry → Type 0
IsRun plan es = (k : ℕ) (e : Entry) → slice_get es k ≡ Some e → Goes plan (world_at plan (take k es)) e

-- the number of an actor's last entry in the rest of the list, whose first entry has number at + 1; n if there is none
abbrev pub last_from : Actor → ℕ → ℕ → List Entry → ℕ
last_from actor n at [] = n
last_from actor n at (e ∷ es) = last_from actor (if same_actor (actor_of e.event) actor then suc at else n) (suc at) es

-- the number of an actor's last entry, counted from 1; 0 if it has none
abbrev pub last_of : Actor → List Entry → ℕ
last_of actor es = last_from actor 0 0 es

-- how many messages were made before the step at a place
abbrev pub before : Plan → List Entry → ℕ → ℕ
before plan es k = length (world_at plan (take k es)).messages
