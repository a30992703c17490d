-- Views of journals, passes, cursors and references to messages for contracts.
use Rattle.std.specs.Prelude.{◌≡◌, ℕ, ◌+◌, ◌<◌, List, [], ◌∷◌, ◌++◌, length, map, Option, option_map, slice_get, All, IsSome, vec_capacity, vec_len}
use Rattle.std.specs.declared.sync.ledger.Ledger.{Ghosts as LedgerGhosts}
use Rattle.volume_model.specs.declared.fault.Fault.{Fault}
use Rattle.volume_model.specs.Common.{Message, World, Event, Actor, world_at, Refusal}
use Rattle.volume_model.specs.Journal as model
use Rattle.wire.specs.Common.{message_of, listed}
use Rattle.board.specs.declared.BoardStep.{BoardStep}
use Rattle.board.specs.Seats as board
use Rattle.journal.specs.declared.row.Site.{Ghosts as SiteGhosts}
use Rattle.journal.specs.declared.entry.Entry.{Entry}
use Rattle.journal.specs.declared.entry.Receipt.{Receipt}
use Rattle.journal.specs.declared.pass.PassStep.{PassStep}
use Rattle.journal.specs.declared.pass.Pass.{Pass}
use Rattle.journal.specs.declared.cursor.ActorCursor.{ActorCursor}
use Rattle.journal.specs.declared.message_ref.MessageRef.{MessageRef}
use Rattle.journal.specs.declared.log.Log.{Log}
use Rattle.journal.specs.Actors.{seen_who}
use Rattle.journal.specs.Entries.{entry_of, entries_of, note_of}
use Rattle.journal.specs.Fronts.{front_log}
use Rattle.journal.specs.LastEntries.{last_in}
use Rattle.journal.specs.PassSteps.{Made, made}
use Rattle.journal.specs.Tokens.{shown}

-- a step of a pass
abbrev pub made_of : {X : Type 0} → PassStep X → Made
made_of h = made h.entry.now.cell (entry_of h.entry.now) h.entry.now.durable

module _ {X : Type 0} {s : SiteGhosts X} where
  -- the steps of a pass
  abbrev pub steps_of : Pass X s → List Made
  steps_of pass = map made_of pass.steps.items

  -- the refusals of a pass
  abbrev pub notes_of : Pass X s → List Refusal
  notes_of pass = map note_of pass.notes.items

  -- what the seat of a pass did on the board
  abbrev pub seat_of : Pass X s → List BoardStep
  seat_of pass = board.steps_of pass.seat

  -- there is room for one more step
  abbrev pub HasStepRoom : Pass X s → Type 0
  HasStepRoom pass = vec_len pass.steps < vec_capacity pass.steps

  -- there is room for one more note
  abbrev pub HasNoteRoom : Pass X s → Type 0
  HasNoteRoom pass = vec_len pass.notes < vec_capacity pass.notes

module _ {X : Type 0} {s : SiteGhosts X} {l : LedgerGhosts X} where
  -- the entries of the journal, in order, as the program has them
  abbrev pub kept_in : Log X s l → List Entry
  kept_in log = shown log.entries.items

  -- the entries of the journal, in order
  abbrev pub journal_of : Log X s l → List model.Entry
  journal_of log = entries_of (kept_in log)

  -- the world after the journal's entries
  abbrev pub world_of : Log X s l → World
  world_of log = world_at s.plan (journal_of log)

  -- the journal has a place for the actor's last entry
  abbrev pub HasPlace : Log X s l → Actor → Type 0
  HasPlace log actor = IsSome (last_in log.lasts actor)

  -- the pass has seen the whole journal
  abbrev pub SeesAll : Pass X s → Log X s l → Type 0
  SeesAll pass log = front_log pass.seen ≡ kept_in log

  -- the actor of a cursor
  abbrev pub marked : ActorCursor X s l → Actor
  marked cursor = seen_who cursor.who

  -- the number of the actor's last entry, by its cursor
  abbrev pub cursor_number : ActorCursor X s l → ℕ
  cursor_number cursor = cursor.number

  -- the entries up to the actor's last one
  abbrev pub seen_at : ActorCursor X s l → List model.Entry
  seen_at cursor = entries_of (front_log cursor.seen)

  -- the number of the referenced message
  abbrev pub message_ref_number : MessageRef X s l → ℕ
  message_ref_number message_ref = message_ref.number

  -- the place of the entry that made the message
  abbrev pub message_ref_cell : MessageRef X s l → ℕ
  message_ref_cell message_ref = message_ref.cell

  -- the referenced message
  abbrev pub message_ref_message : MessageRef X s l → Option Message
  message_ref_message message_ref = option_map message_of (slice_get (listed message_ref.entry.now.made)
      message_ref.index)

-- the place of each of these steps is below this number
abbrev pub AtMost : ℕ → List Made → Type 0
AtMost number = All (λ s. s.at < number)

-- the pass has one more step, which is the receipt's and comes after all others
abbrev pub AddsStep : Event → Receipt → List Made → List Made → Type 0
AddsStep event r before after =
    (s : Made) × (after ≡ before ++ s ∷ []) × (s.at + 1 ≡ r.number) × (s.entry.event ≡ event)
    × (length s.entry.made ≡ r.made) × (s.entry.first + 1 ≡ r.first_message) × (s.durable ≡ r.durable)
    × All (λ t. t.at + 1 < r.number) before

-- the pass has one more note, whose number is above the place of each step of the pass
abbrev pub AddsRefusal : Event → Fault → List Made → List Refusal → List Refusal → Type 0
AddsRefusal event fault steps before after =
    (number : ℕ) × (after ≡ before ++ record { event = event; fault = fault; number = number } ∷ []) × AtMost number
    steps
