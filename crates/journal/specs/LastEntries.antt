-- The number of each actor's last entry.
use Rattle.std.specs.Prelude.{ℕ, nat_lt, if◌then◌else◌, Option, Some, None, slice_get}
use Rattle.volume_model.specs.Common.{Actor}
use Rattle.world.specs.Slots.{members, slot_of}
use Rattle.journal.specs.declared.last_entries.LastEntries.{LastEntries}

-- the number of an actor's last entry, if the table has a place for the actor
abbrev pub last_in : LastEntries → Actor → Option ℕ
last_in l Actor.TheAuthority = Some l.authority
last_in l (Actor.Client volume) = slice_get l.clients.items volume
last_in l (Actor.Node group member) = if nat_lt member members then slice_get l.nodes.items (slot_of group member) else
    None

-- a number, 0 if there is none
abbrev pub or_zero : Option ℕ → ℕ
or_zero None = 0
or_zero (Some n) = n

-- the number of an actor's last entry, 0 if the table has no place for the actor
abbrev pub last_known : LastEntries → Actor → ℕ
last_known l actor = or_zero (last_in l actor)
