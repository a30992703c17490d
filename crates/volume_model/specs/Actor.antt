-- Actors, and what each does with its own state and the messages that are passed to it.
use Rattle.std.specs.Prelude.{◌≡◌, ℕ, Bool, true, false, ◌&&◌, ◌==◌, nat_lt, List, [], Option, Some, None, Result, Ok, Err}
use Rattle.volume_model.specs.declared.fault.Fault.{Fault}
use Rattle.volume_model.specs.Lists.{added, numbered, put, put_at, IsBeginningOf}
use Rattle.volume_model.specs.Plan.{Plan}
use Rattle.volume_model.specs.Message.{Message}
use Rattle.volume_model.specs.Node as node
use Rattle.volume_model.specs.Node.{NodeAnswer, hydrated, offered, restarted}
use Rattle.volume_model.specs.Client as client
use Rattle.volume_model.specs.Client.{ClientAnswer}
use Rattle.volume_model.specs.ClientWriter.{issued, page_asked, resent}
use Rattle.volume_model.specs.ClientRecovery.{cut_client, opened}
use Rattle.volume_model.specs.World.{World, Event, Authority, AuthorityStep, Step, advanced, assigned, deliver, groups_joined, grown, if_there, refreshed, take}
use Rattle.volume_model.specs.World.Event.{Assign, Advance, Refresh, Grow, Issue, Take, Cut, Open, Resend, Read, Deliver, Hydrate, Restart, Offer}

-- an actor: the authority, the client of a volume epoch, or the node of a group and member
pub data Actor : Type 0 where
  TheAuthority : Actor
  Client : (volume : ℕ) → Actor
  Node : (group member : ℕ) → Actor

-- the actor whose step an event is
abbrev pub actor_of : Event → Actor
actor_of Assign = Actor.TheAuthority
actor_of (Advance group configuration) = Actor.TheAuthority
actor_of (Refresh volume) = Actor.TheAuthority
actor_of Grow = Actor.TheAuthority
actor_of (Issue volume changes) = Actor.Client volume
actor_of (Take volume number) = Actor.Client volume
actor_of (Cut volume) = Actor.Client volume
actor_of (Open volume) = Actor.Client volume
actor_of (Resend volume lsn) = Actor.Client volume
actor_of (Read volume group block) = Actor.Client volume
actor_of (Deliver group member number) = Actor.Node group member
actor_of (Hydrate group member) = Actor.Node group member
actor_of (Restart group member) = Actor.Node group member
actor_of (Offer group member lsn) = Actor.Node group member

-- whether both are the same actor
abbrev pub same_actor : Actor → Actor → Bool
same_actor Actor.TheAuthority Actor.TheAuthority = true
same_actor Actor.TheAuthority (Actor.Client b) = false
same_actor Actor.TheAuthority (Actor.Node h b) = false
same_actor (Actor.Client a) Actor.TheAuthority = false
same_actor (Actor.Client a) (Actor.Client b) = a == b
same_actor (Actor.Client a) (Actor.Node h b) = false
same_actor (Actor.Node g a) Actor.TheAuthority = false
same_actor (Actor.Node g a) (Actor.Client b) = false
same_actor (Actor.Node g a) (Actor.Node h b) = g == h && a == b

-- the type of an actor's state
abbrev pub State : Actor → Type 0
State Actor.TheAuthority = Authority
State (Actor.Client volume) = client.Client
State (Actor.Node group member) = node.Node

-- the state of an actor in a world
abbrev pub state_in : World → (actor : Actor) → State actor
state_in w Actor.TheAuthority = w.authority
state_in w (Actor.Client volume) = w.clients volume
state_in w (Actor.Node group member) = w.nodes group member

-- the result of an actor's step: the messages that it makes, and its new state
pub record Acted (actor : Actor) : Type 0 where
  pub made : List Message
  pub state : State actor

-- the authority's answer, as an actor's
abbrev pub authority_acted : Result AuthorityStep Fault → Result (Acted Actor.TheAuthority) Fault
authority_acted (Err fault) = Err fault
authority_acted (Ok s) = Ok (record { made = s.made; state = s.authority })

-- a client's answer, as an actor's
abbrev pub client_acted : (volume : ℕ) → ClientAnswer → Result (Acted (Actor.Client volume)) Fault
client_acted volume (Err fault) = Err fault
client_acted volume (Ok s) = Ok (record { made = s.made; state = s.client })

-- a node's answer, as an actor's
abbrev pub node_acted : (group member : ℕ) → NodeAnswer → Result (Acted (Actor.Node group member)) Fault
node_acted group member (Err fault) = Err fault
node_acted group member (Ok s) = Ok (record { made = s.made; state = s.node })

-- what the actor of an event does, given the number of groups that have joined and the messages made so far, newest
-- first
abbrev pub acted : Plan → ℕ → List Message → (event : Event) → State (actor_of event) → Result (Acted (actor_of event))
    Fault
acted plan joined messages Assign now = authority_acted (assigned plan now)
acted plan joined messages (Advance group configuration) now = authority_acted (advanced plan now group configuration)
acted plan joined messages (Refresh volume) now = authority_acted (refreshed plan now volume)
acted plan joined messages Grow now = authority_acted (grown plan now)
acted plan joined messages (Issue volume changes) now = client_acted volume (issued plan volume now changes)
acted plan joined messages (Take volume number) now = client_acted volume
    (take plan volume now (numbered messages number))
acted plan joined messages (Cut volume) now = client_acted volume (cut_client plan volume now)
acted plan joined messages (Open volume) now = client_acted volume (opened plan now)
acted plan joined messages (Resend volume lsn) now = client_acted volume (resent volume now lsn)
acted plan joined messages (Read volume group block) now = client_acted volume (page_asked volume now group block)
acted plan joined messages (Deliver group member number) now = node_acted group member
    (if_there plan joined group member (deliver plan group member now (numbered messages number)))
acted plan joined messages (Hydrate group member) now = node_acted group member (if_there plan joined group member
    (hydrated plan group member now))
acted plan joined messages (Restart group member) now = node_acted group member (if_there plan joined group member
    (Ok (record { made = []; node = restarted now })))
acted plan joined messages (Offer group member lsn) now = node_acted group member (if_there plan joined group member
    (offered group now lsn))

-- the world with another state of one actor
abbrev pub with_state : World → (actor : Actor) → State actor → World
with_state w Actor.TheAuthority now = record w { authority = now }
with_state w (Actor.Client volume) now = record w { clients = put w.clients volume now }
with_state w (Actor.Node group member) now = record w { nodes = put_at w.nodes group member now }

-- the world after an actor's step: its state is replaced and the messages that it made are added
abbrev pub in_world : World → (actor : Actor) → Result (Acted actor) Fault → Result Step Fault
in_world w actor (Err fault) = Err fault
in_world w actor (Ok s) =
    Ok (record { made = s.made; world = record (with_state w actor s.state) { messages = added s.made w.messages } })

-- the actor exists when this many groups have joined: a node exists if its group has joined
abbrev pub is_joined : ℕ → Actor → Bool
is_joined joined Actor.TheAuthority = true
is_joined joined (Actor.Client volume) = true
is_joined joined (Actor.Node group member) = nat_lt group joined

-- the actor of an event exists in both worlds or in neither, by the number of groups that have joined
abbrev pub JoinedAlike : Event → World → World → Type 0
JoinedAlike e w v = is_joined (groups_joined w.authority) (actor_of e) ≡ is_joined (groups_joined v.authority)
    (actor_of e)

-- both worlds have the actor in the same state
abbrev pub Agree : Actor → World → World → Type 0
Agree Actor.TheAuthority w v = w.authority ≡ v.authority
Agree (Actor.Client c) w v = w.clients c ≡ v.clients c
Agree (Actor.Node g m) w v = w.nodes g m ≡ v.nodes g m

-- v has the messages of w, and perhaps newer ones
abbrev pub Keeps : World → World → Type 0
Keeps w v = IsBeginningOf w.messages v.messages

-- the message that an event names
abbrev pub named_by : Event → Option ℕ
named_by (Take volume number) = Some number
named_by (Deliver group member number) = Some number
named_by event = None
