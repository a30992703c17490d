-- A client's actor as seen by contracts.
use Rattle.std.specs.Prelude.{◌≡◌, ℕ, List, All, Result, Err}
use Rattle.std.specs.declared.sync.ledger.Ledger.{Ghosts as LedgerGhosts}
use Rattle.volume_model.specs.declared.fault.Fault.TheVariants.{NoMessage}
use Rattle.volume_model.specs.Client.{Client}
use Rattle.volume_model.specs.Common.{Event}
use Rattle.world.specs.Clients.{client_volume, seen_client}
use Rattle.journal.specs.declared.row.Site.{Ghosts as SiteGhosts}
use Rattle.journal.specs.declared.entry.Receipt.{Receipt}
use Rattle.journal.specs.PassSteps.{IsElse, Made}
use Rattle.node_fleet.specs.declared.halt.Halt.{Halt}
use Rattle.node_fleet.specs.declared.halt.Halt.TheVariants.{Refused}
use Rattle.node_fleet.specs.declared.client.ClientActor.{ClientActor}

-- the client's volume epoch
abbrev pub actor_volume : {X : Type 0} {s : SiteGhosts X} {l : LedgerGhosts X} → ClientActor X s l → ℕ
actor_volume actor = client_volume actor.client

-- the client of the model for the actor
abbrev pub actor_client : {X : Type 0} {s : SiteGhosts X} {l : LedgerGhosts X} → ClientActor X s l → Client
actor_client actor = seen_client actor.client

-- the event takes a message that none of these steps made
abbrev pub IsElsewhere : Event → List Made → Type 0
IsElsewhere (Event.Take volume message) steps = All (IsElse message) steps
IsElsewhere other steps = ⊥

-- if the refusal is NoMessage, the event takes a message that none of these steps made
abbrev pub IsUnmade : Event → List Made → Result Receipt Halt → Type 0
IsUnmade event steps result = result ≡ Err (Refused NoMessage) → IsElsewhere event steps
