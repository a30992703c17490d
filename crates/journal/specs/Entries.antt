-- The entries of the model for a program's entries.
use Rattle.std.specs.Prelude.{List, map}
use Rattle.volume_model.specs.Journal as model
use Rattle.volume_model.specs.Common.{Refusal}
use Rattle.wire.specs.Common.{messages_of, listed}
use Rattle.world.specs.Events.{event_of}
use Rattle.journal.specs.declared.entry.Entry.{Entry}
use Rattle.journal.specs.declared.entry.Note.{Note}

-- the entry of the model for an entry
abbrev pub entry_of : Entry → model.Entry
entry_of e = record { event = event_of e.event; made = messages_of (listed e.made); first = e.first }

-- the entries of the model, in order
abbrev pub entries_of : List Entry → List model.Entry
entries_of = map entry_of

-- the refusal of the model for a note
abbrev pub note_of : Note → Refusal
note_of n = record { event = event_of n.event; fault = n.fault; number = n.number }
