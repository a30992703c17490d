-- The actions of actors, as events and steps of the model.
use Rattle.std.specs.Prelude.{ℕ, Bool, true, false, List, [], Option, None, Some, option_map, Result}
use Rattle.std.specs.Borrow.{Bor}
use Rattle.volume_model.specs.declared.fault.Fault.{Fault}
use Rattle.volume_model.specs.Common.{never_after_growth, added, numbered, Plan, NodeAnswer, ClientAnswer, issued, page_asked, resent, cut_client, opened, Authority, AuthorityStep, Event, assigned, advanced, refreshed, grown, deliver, take, Few}
use Rattle.volume_model.specs.Message as model
use Rattle.volume_model.specs.Client.{Client}
use Rattle.wire.specs.Common.{message_of, messages_of}
use Rattle.wire.specs.declared.message.Message.{Message}
use Rattle.epochs.specs.Authority.{grew, announced}
use Rattle.segment_core.specs.declared.action.NodeAction.{NodeAction}
use Rattle.segment_core.specs.declared.action.NodeAction.TheVariants as node
use Rattle.segment_core.specs.Actions.{action_after_growth}
use Rattle.segment_core.specs.declared.segment.Segment.{Segment}
use Rattle.segment_core.specs.Segment.{action_of, node_of, segment_plan, segment_group, segment_member}
use Rattle.recovery.specs.Finds.{is_spent}
use Rattle.writer_core.specs.Changes.{changes_of}
use Rattle.world.specs.Moves.{NodeMoves}
use Rattle.world.specs.declared.actions.ActorAction.{ActorAction}
use Rattle.world.specs.declared.actions.ActorAction.TheVariants as actor
use Rattle.world.specs.declared.actions.AuthorityAction.{AuthorityAction}
use Rattle.world.specs.declared.actions.AuthorityAction.TheVariants as authority
use Rattle.world.specs.declared.actions.ClientAction.{ClientAction}
use Rattle.world.specs.declared.actions.ClientAction.TheVariants as client

-- the event of a node's action
abbrev pub node_event : ℕ → ℕ → NodeAction → Event
node_event group member node.Hydrate = Event.Hydrate group member
node_event group member node.Restart = Event.Restart group member
node_event group member (node.Offer lsn) = Event.Offer group member lsn

-- the event of an action of the authority
abbrev pub authority_event : AuthorityAction → Event
authority_event authority.Assign = Event.Assign
authority_event (authority.Advance group configuration) = Event.Advance group configuration
authority_event (authority.Refresh volume) = Event.Refresh volume
authority_event authority.Grow = Event.Grow

-- the event of a client's action
abbrev pub client_event : ℕ → ClientAction → Event
client_event volume (client.Issue changes) = Event.Issue volume (changes_of changes.now)
client_event volume (client.Take message) = Event.Take volume message
client_event volume client.Cut = Event.Cut volume
client_event volume client.Open = Event.Open volume
client_event volume (client.Resend lsn) = Event.Resend volume lsn
client_event volume (client.Read group block) = Event.Read volume group block

-- the event of an actor's action
abbrev pub action_event : ActorAction → Event
action_event (actor.Authority action) = authority_event action
action_event (actor.Client volume action) = client_event volume action
action_event (actor.Node group member action) = node_event group member action
action_event (actor.Deliver group member message) = Event.Deliver group member message

-- the event is the authority's
abbrev pub is_of_authority : Event → Bool
is_of_authority Event.Assign = true
is_of_authority (Event.Advance group configuration) = true
is_of_authority (Event.Refresh volume) = true
is_of_authority Event.Grow = true
is_of_authority event = false

-- the event is a client's
abbrev pub is_of_client : Event → Bool
is_of_client (Event.Issue volume changes) = true
is_of_client (Event.Take volume message) = true
is_of_client (Event.Cut volume) = true
is_of_client (Event.Open volume) = true
is_of_client (Event.Resend volume lsn) = true
is_of_client (Event.Read volume group block) = true
is_of_client event = false

-- the answer of the authority to an action
abbrev pub authority_acted : Plan → Authority → AuthorityAction → Result AuthorityStep Fault
authority_acted plan now authority.Assign = assigned plan now
authority_acted plan now (authority.Advance group configuration) = advanced plan now group configuration
authority_acted plan now (authority.Refresh volume) = refreshed plan now volume
authority_acted plan now authority.Grow = grown plan now

-- a property that holds if the action is Advance, which allocates nothing
abbrev pub OfAdvance : AuthorityAction → Type 0 → Type 0
OfAdvance authority.Assign P = Unit {0}
OfAdvance (authority.Advance group configuration) P = P
OfAdvance (authority.Refresh volume) P = Unit {0}
OfAdvance authority.Grow P = Unit {0}

-- the step of the authority that makes this message, if there is one, and leaves this state
abbrev pub spoken : Option Message → Authority → AuthorityStep
spoken None now = grew tt now
spoken (Some message) now = announced message now

-- the message that was looked up
abbrev pub message_found : Option (Bor Message) → Option model.Message
message_found = option_map (λ (message : Bor Message). message_of message.now)

-- the message that an action names, of those made
abbrev pub named_in : List model.Message → ClientAction → Option model.Message
named_in made (client.Take message) = numbered made message
named_in made action = None

-- the answer of a client to an action; found is the message that was looked up for Take
abbrev pub client_acted : Option model.Message → ClientAction → Plan → ℕ → Client → ClientAnswer
client_acted found (client.Issue changes) plan volume now = issued plan volume now (changes_of changes.now)
client_acted found (client.Take message) plan volume now = take plan volume now found
client_acted found client.Cut plan volume now = cut_client plan volume now
client_acted found client.Open plan volume now = opened plan now
client_acted found (client.Resend lsn) plan volume now = resent volume now lsn
client_acted found (client.Read group block) plan volume now = page_asked volume now group block

-- the same, with the message looked up among those made
abbrev pub client_does : List model.Message → ClientAction → Plan → ℕ → Client → ClientAnswer
client_does made action plan volume now = client_acted (named_in made action) action plan volume now

-- the action of this client makes at most this many messages
abbrev pub MakesAtMost : Plan → ℕ → Client → ClientAction → ℕ → Type 0
MakesAtMost plan volume now action most = (found : Option model.Message) → Few most (client_acted found action plan
    volume now)

-- the refusals of a client that may come after a failed allocation: LsnSpent of a Cut, which finds the log first
abbrev pub client_after_growth : ClientAction → Fault → Bool
client_after_growth client.Cut = is_spent
client_after_growth action = never_after_growth

-- a property that holds if the action is Open, which allocates nothing
abbrev pub OfOpening : ClientAction → Type 0 → Type 0
OfOpening client.Open P = P
OfOpening action P = Unit {0}

-- a property that holds if the action isn't Cut, which allocates to find its refusal
abbrev pub ButForCut : ClientAction → Type 0 → Type 0
ButForCut client.Cut P = Unit {0}
ButForCut action P = P

-- A segment takes the defined step, and its messages are appended; or the segment and the messages are unchanged.
abbrev pub SegmentMoves : (Fault → Bool) → NodeAnswer → Segment → Segment → List Message → List Message
    → Result ℕ Fault → Type 0
SegmentMoves late defined old new kept now result = NodeMoves late defined (node_of old) (added (messages_of kept) [])
    result (node_of new) (added (messages_of now) [])

-- the same for the reaction to the message with this number
abbrev pub Delivers : ℕ → Segment → Segment → List Message → List Message → Result ℕ Fault → Type 0
Delivers number old new kept now result = SegmentMoves never_after_growth
    (deliver (segment_plan old) (segment_group old) (segment_member old) (node_of old)
    (numbered (added (messages_of kept) []) number)) old new kept now result

-- the same for an action
abbrev pub SegmentActs : NodeAction → Segment → Segment → List Message → List Message → Result ℕ Fault → Type 0
SegmentActs action old new kept now result = SegmentMoves (action_after_growth action) (action_of old action) old new
    kept now result
