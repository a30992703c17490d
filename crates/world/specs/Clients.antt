-- The clients of a program by volume epoch.
use Rattle.std.specs.Prelude.{◌≡◌, ℕ, ◌==◌, if◌then◌else◌, List, Option, Some, None, slice_index_or}
use Rattle.std.specs.Arc.{arc_value}
use Rattle.std.specs.Global.{Box}
use Rattle.volume_model.specs.Common.{Plan, unborn}
use Rattle.volume_model.specs.Client as model
use Rattle.plan.specs.Common.{checked_model}
use Rattle.writer_core.specs.Writers.{client_of, writer_plan, writer_volume}
use Rattle.recovery.specs.Recoveries as recoveries
use Rattle.recovery.specs.Recoveries.{recovery_plan, recovery_volume}
use Rattle.world.specs.declared.client.Client.{Client}
use Rattle.world.specs.declared.client.ClientState.{ClientState}
use Rattle.world.specs.declared.client.ClientState.TheVariants.{Recovery, Unborn, Writer}

-- the client of the model for a state
abbrev pub seen_state : ClientState → model.Client
seen_state Unborn = unborn
seen_state (Recovery r) = recoveries.client_of r
seen_state (Writer w) = client_of w

-- the plan of a state; the given one if it has none
abbrev pub plan_or : Plan → ClientState → Plan
plan_or plan Unborn = plan
plan_or plan (Recovery r) = recovery_plan r
plan_or plan (Writer w) = writer_plan w

-- the volume epoch of a state; the given one if it has none
abbrev pub volume_or : ℕ → ClientState → ℕ
volume_or volume Unborn = volume
volume_or volume (Recovery r) = recovery_volume r
volume_or volume (Writer w) = writer_volume w

-- the client of the model for a client
abbrev pub seen_client : Client → model.Client
seen_client client = seen_state client.state

-- the plan of a client
abbrev pub client_plan : Client → Plan
client_plan client = plan_or (checked_model (arc_value client.plan)) client.state

-- the volume epoch of a client
abbrev pub client_volume : Client → ℕ
client_volume client = volume_or client.volume client.state

-- This is the client of this volume epoch, over this plan.
pub record IsClientOf (plan : Plan) (volume : ℕ) (client : Client) : Type 0 where
  pub plan_is : client_plan client ≡ plan
  pub volume_is : client_volume client ≡ volume

-- both clients have the same plan and the same volume epoch
abbrev pub IsSameClient : Client → Client → Type 0
IsSameClient old new = IsClientOf (client_plan old) (client_volume old) new

-- the client in the box; an unborn client if there is none
abbrev pub client_or_unborn : Option (Box Client) → model.Client
client_or_unborn None = unborn
client_or_unborn (Some client) = seen_client client.value

-- the entry of a table for a volume epoch; None beyond its end
abbrev pub client_in : List (Option (Box Client)) → ℕ → Option (Box Client)
client_in clients volume = slice_index_or clients volume None

-- the client of a volume epoch
abbrev pub clients_of : List (Option (Box Client)) → ℕ → model.Client
clients_of clients volume = client_or_unborn (client_in clients volume)

-- each client is at the place of its volume epoch
abbrev pub AreClients : Plan → List (Option (Box Client)) → Type 0
AreClients plan clients = (volume : ℕ) (client : Box Client) → client_in clients volume ≡ Some client → IsClientOf plan
    volume client.value

-- both tables have the same clients
abbrev pub HasSameClients : List (Option (Box Client)) → List (Option (Box Client)) → Type 0
HasSameClients old new = (volume : ℕ) → client_in new volume ≡ client_in old volume

-- the new table has this client at the place of this volume epoch, else the clients of the old one
abbrev pub IsPut : List (Option (Box Client)) → ℕ → Box Client → List (Option (Box Client)) → Type 0
IsPut old volume client new = (other : ℕ) → client_in new other ≡ (if other == volume then Some client else client_in
    old other)
