-- Actions that need slots or messages, or move durable points.
use Rattle.std.specs.Prelude.{◌≡◌, ◌≢◌, ℕ, List, Option, IsSome}
use Rattle.volume_model.specs.Common.{numbered, Message, Authority, Event}
use Rattle.volume_model.specs.Client.{Client}
use Rattle.world.specs.declared.actions.AuthorityAction.{AuthorityAction}
use Rattle.world.specs.declared.actions.AuthorityAction.TheVariants.{Assign}
use Rattle.world.specs.declared.actions.ClientAction.{ClientAction}
use Rattle.world.specs.declared.actions.ClientAction.TheVariants.{Open, Take}
use Rattle.journal.specs.PassSteps.{durable_of}

-- the action is Assign, and the last slot's volume epoch is assigned already
abbrev pub IsSpent : AuthorityAction → Authority → ℕ → Type 0
IsSpent Assign now slots = now.last_volume ≡ slots
IsSpent other now slots = ⊥

-- if the action is Assign, the last slot's volume epoch isn't assigned yet
abbrev pub IsLeft : AuthorityAction → Authority → ℕ → Type 0
IsLeft Assign now slots = now.last_volume ≢ slots
IsLeft other now slots = Unit {0}

-- if the event takes a message, found is that message among these
abbrev pub IsFound : List Message → Event → Option Message → Type 0
IsFound made (Event.Take volume message) found = IsSome found × (numbered made message ≡ found)
IsFound made other found = Unit {0}

-- if the action takes a message, one was found
abbrev pub HasFound : ClientAction → Option Message → Type 0
HasFound (Take message) found = IsSome found
HasFound other found = Unit {0}

-- the durable point in a step's entry: the client's if the action may move it, else 0
abbrev pub action_durable : ClientAction → Client → ℕ
action_durable (Take message) now = durable_of now
action_durable Open now = durable_of now
action_durable other now = 0
