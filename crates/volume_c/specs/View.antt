-- The contents of a handle, as the model has them.
use Rattle.std.specs.Prelude.{ℕ, List, [], Option, None, Some}
use Rattle.std.specs.Arc.{arc_value}
use Rattle.volume_model.specs.Common.{Plan}
use Rattle.volume_model.specs.Message as model
use Rattle.volume_model.specs.Node.{Node}
use Rattle.volume_model.specs.Client as client
use Rattle.volume_model.specs.World as world
use Rattle.plan.specs.Common.{checked_model}
use Rattle.wire.specs.Common.{messages_of}
use Rattle.epochs.specs.Authority.{authority_of, authority_plan}
use Rattle.segment_core.specs.Segment.{node_of, segment_plan, segment_group, segment_member}
use Rattle.world.specs.Clients.{client_plan, client_volume, seen_client}
use Rattle.volume_c.specs.declared.actor.Actor.{Actor}
use Rattle.volume_c.specs.declared.actor.Actor.TheVariants as actor
use Rattle.volume_c.specs.declared.actor.Held.{Held}
use Rattle.volume_c.specs.Outbox.{left_in}
use Rattle.volume_c.specs.SnapshotBytes.{bytes_left}

-- nothing, a plan, the node of a member of a group, the client of a volume epoch, or the authority, each over its plan;
-- or the bytes of a snapshot that were not handed out
pub data View : Type 0 where
  Nothing : View
  APlan : Plan → View
  ANode : Plan → ℕ → ℕ → Node → View
  AClient : Plan → ℕ → client.Client → View
  AnAuthority : Plan → world.Authority → View
  ASnapshot : List ℕ → View

-- the actor
abbrev pub view_of : Actor → View
view_of (actor.Plan plan) = APlan (checked_model (arc_value plan))
view_of (actor.Segment s) = ANode (segment_plan s) (segment_group s) (segment_member s) (node_of s)
view_of (actor.Client c) = AClient (client_plan c) (client_volume c) (seen_client c)
view_of (actor.Authority a) = AnAuthority (authority_plan a) (authority_of a)
view_of (actor.Snapshot s) = ASnapshot (bytes_left s)

-- the contents of a handle
abbrev pub seen : Option Held → View
seen None = Nothing
seen (Some held) = view_of held.actor

-- the messages of a handle that weren't taken
abbrev pub unsent : Option Held → List model.Message
unsent None = []
unsent (Some held) = messages_of (left_in held.outbox)

-- the client of a handle, if there is one
abbrev pub client_in : View → Option client.Client
client_in Nothing = None
client_in (APlan plan) = None
client_in (ANode plan group member node) = None
client_in (AClient plan volume client) = Some client
client_in (AnAuthority plan authority) = None
client_in (ASnapshot bytes) = None

-- the messages that weren't taken, and the actor
abbrev pub held_now : Held → List model.Message × View
held_now held = (unsent (Some held), seen (Some held))
