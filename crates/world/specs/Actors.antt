-- The world of the model for a program's actors.
use Rattle.std.specs.Prelude.{◌≡◌, ℕ, ◌≤◌, Bool, false, List, [], length, Result, Ok, Err}
use Rattle.volume_model.specs.declared.fault.Fault.{Fault}
use Rattle.volume_model.specs.Common.{never_after_growth, AnswersAfterGrowth, added, Plan, is_named, Event, World, Step, Cut, Hydrate}
use Rattle.volume_model.specs.Message as model
use Rattle.wire.specs.Common.{messages_of}
use Rattle.std.specs.Arc.{arc_value}
use Rattle.plan.specs.Common.{checked_model}
use Rattle.epochs.specs.Authority.{authority_of, authority_plan}
use Rattle.segment_core.specs.Actions.{is_full}
use Rattle.recovery.specs.Finds.{is_spent}
use Rattle.world.specs.Slots.{members, node_at}
use Rattle.world.specs.Homes.{nodes_of, AreHomes}
use Rattle.world.specs.Clients.{clients_of, AreClients}
use Rattle.world.specs.Worlds.{world_with}
use Rattle.world.specs.declared.actors.Actors.{Actors}

-- the plan of the actors
abbrev pub plan_of : Actors → Plan
plan_of a = authority_plan a.authority

-- the messages made so far, newest first
abbrev pub messages_in : Actors → List model.Message
messages_in a = added (messages_of a.messages.items) []

-- the world of the model for the actors
abbrev pub world_of : Actors → World
world_of a = world_with (authority_of a.authority) (node_at (plan_of a) (nodes_of a.nodes.items))
    (clients_of a.clients.items) (messages_in a)

-- The actors are those of their plan, and all members are below 64.
pub record AreActors (a : Actors) : Type 0 where
  pub plan : checked_model (arc_value a.plan) ≡ plan_of a
  pub homes : AreHomes (plan_of a) a.nodes.items
  pub low : (group member : ℕ) → members ≤ member → is_named (plan_of a) group member ≡ false
  pub clients : AreClients (plan_of a) a.clients.items

-- the number of messages that a step of the world makes, and the world after it
pub record Moved : Type 0 where
  pub count : ℕ
  pub world : World

-- the same for a step that is defined
abbrev pub moved_of : Result Step Fault → Result Moved Fault
moved_of (Err fault) = Err fault
moved_of (Ok step) = Ok (record { count = length step.made; world = step.world })

-- this many messages were made, and this is the world
abbrev pub moved : ℕ → World → Moved
moved count world = record { count = count; world = world }

-- The result of a step is the number of messages that the defined step makes, or its refusal, and the world is the
-- defined one. If memory runs out the world is unchanged; that comes after all refusals except late ones.
abbrev pub Steps : (Fault → Bool) → Result Step Fault → World → Result ℕ Fault → World → Type 0
Steps late defined old result new = AnswersAfterGrowth late moved (moved_of defined) old result new

-- the refusals that may come after a failed allocation, since records are gathered first
abbrev pub event_after_growth : Event → Fault → Bool
event_after_growth (Hydrate group member) = is_full
event_after_growth (Cut volume) = is_spent
event_after_growth event = never_after_growth
