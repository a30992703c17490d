-- The rule of the history: each seat has a prefix of the list of its one keeper. The table's word has no meaning.
use Rattle.std.specs.Prelude.{◌≡◌, ℕ, List, Bool, true}
use mathlib.Core.Option.{some}
use mathlib.Core.List.{IsPrefix}
use lib.ListN.{get_elem?}
use Rattle.journal.specs.declared.entry.Entry.{Entry}
use Rattle.world.specs.declared.event.Event.TheVariants.{Assign}
use Rattle.wire.specs.declared.messages.Messages.TheVariants.{Empty}
use Rattle.journal.specs.declared.history.SeatView.{SeatView}

-- the view of a seat
abbrev pub seat_view : Bool → List Entry → List Entry → SeatView
seat_view keeps log claim = record { keeps = keeps; log = log; claim = claim }

-- the lists of seat p are prefixes of all, and the keeper has all
abbrev pub Fits : List Entry → ℕ → ℕ → SeatView → Type 0
Fits all keeper p v = IsPrefix v.log all × IsPrefix v.claim all × (v.keeps ≡ true → (p ≡ keeper) × (v.log ≡ all))

-- the lists of all seats are prefixes of one history, which one of them keeps
abbrev pub Stands : List SeatView → Type 0
Stands views = (all : List Entry) × (keeper : ℕ) × ((p : ℕ) (v : SeatView) → get_elem? views p ≡ some v
    → Fits all keeper p v)

-- a placeholder entry
abbrev pub no_entry : Entry
no_entry = record { event = Assign; made = Empty; first = 0; cell = 0; durable = 0 }
