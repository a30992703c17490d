-- What a noted refusal says about a journal, and keeps saying as the journal grows.
use Rattle.std.specs.Prelude.{◌≡◌, ℕ, ◌≤◌, List, length, take}
use Rattle.volume_model.specs.declared.fault.Fault.{Fault}
use Rattle.volume_model.specs.declared.fault.Fault.TheVariants.{NoMemory, NoMessage, NoSlot, JournalFull}
use Rattle.volume_model.specs.Lists.{put, put_at}
use Rattle.volume_model.specs.Numbers.{number_of}
use Rattle.volume_model.specs.Plan.{Plan}
use Rattle.volume_model.specs.World.{World, Event, step}
use Rattle.volume_model.specs.Actor.{Actor, actor_of}
use Rattle.volume_model.specs.StepResults.{refusal}
use Rattle.volume_model.specs.Journal.{Entry, world_at}

-- the world v with one actor's state from w; for a node, also with as many groups joined as in w
abbrev pub placed : Actor → World → World → World
placed Actor.TheAuthority w v = record v { authority = w.authority }
placed (Actor.Client c) w v = record v { clients = put v.clients c (w.clients c) }
placed (Actor.Node g m) w v = record v { authority = w.authority; nodes = put_at v.nodes g m (w.nodes g m) }

-- the world of these entries, with the event's actor as it was after the first number of them
abbrev pub judged : Plan → List Entry → ℕ → Event → World
judged plan es number event = placed (actor_of event) (world_at plan (take number es)) (world_at plan es)

-- The first of two numbers that are equal if the refusal is true; wanted is the second. For NoSlot they are the last
-- volume epoch and the number of slots, for JournalFull the journal's length and its number of cells, for any other
-- fault the number of the model's refusal and the fault's own. Running out of memory and a missing message are not
-- noted
abbrev pub found_in : Plan → List Entry → ℕ → Event → Fault → ℕ
found_in plan es number event NoMemory = 0
found_in plan es number event NoMessage = 0
found_in plan es number event NoSlot = (world_at plan (take number es)).authority.last_volume
found_in plan es number event JournalFull = length es
found_in plan es number event fault = refusal (step plan (judged plan es number event) event)

abbrev pub wanted : ℕ → ℕ → Fault → ℕ
wanted slots cells NoSlot = slots
wanted slots cells JournalFull = cells
wanted slots cells fault = number_of fault

-- what is noted of a refusal: the event, the fault, and how many entries the actor had seen
pub record Refusal : Type 0 where
  pub event : Event
  pub fault : Fault
  pub number : ℕ

-- the refusal is true of this journal
pub record IsRefused (plan : Plan) (slots cells : ℕ) (es : List Entry) (n : Refusal) : Type 0 where
  pub within : n.number ≤ length es
  pub judged_so : found_in plan es n.number n.event n.fault ≡ wanted slots cells n.fault

-- The refusal is true after these entries. NoSlot: the event is Assign, the model doesn't refuse it, and the last
-- volume epoch is the number of slots. JournalFull: the model refuses nothing, and there are as many entries as cells.
-- Any other fault is the model's. NoMemory says nothing
abbrev pub Exact : Plan → ℕ → ℕ → List Entry → Event → Fault → Type 0
Exact plan slots cells es event NoMemory = Unit {0}
Exact plan slots cells es event NoSlot =
    (event ≡ Event.Assign) × (refusal (step plan (world_at plan es) event) ≡ 0)
    × ((world_at plan es).authority.last_volume ≡ slots)
Exact plan slots cells es event JournalFull = (refusal (step plan (world_at plan es) event) ≡ 0) × (length es ≡ cells)
Exact plan slots cells es event fault = refusal (step plan (world_at plan es) event) ≡ number_of fault

-- a fault that is noted
abbrev pub IsNoted : Fault → Type 0
IsNoted NoMemory = ⊥
IsNoted NoMessage = ⊥
IsNoted fault = Unit {0}
