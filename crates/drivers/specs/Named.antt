-- The first line of a text, and the message that it names.
use Rattle.std.specs.Prelude.{◌≡◌, ℕ, ◌-◌, ◌<◌, ◌≤◌, true, List, [], ◌∷◌, ◌++◌, Option, Some, None, Result, Ok, Err, length, slice_index_or, take}
use Rattle.std.specs.Borrow.{Bor}
use Rattle.std.specs.List.{All}
use Rattle.std.specs.Str.{IsUtf8}
use Rattle.std.specs.Str.Parse.{digits_value}
use Rattle.volume_model.specs.declared.fault.Fault.{Fault}
use Rattle.world.specs.declared.event.Order.{Order}
use Rattle.drivers.specs.Grammar.{LineAction, action_of, name_in}
use Rattle.drivers.specs.Pieces.{pieces, before_newline}
use Rattle.drivers.specs.Script.{AddsLine, Kept}
use Rattle.drivers.specs.Seen.{Seen, asked_by, seen_action}
use Rattle.drivers.specs.Words.{is_numeral, sides_in}

-- the text begins with a numeral of this value, below 2^32, and continues with rest
pub record IsNumberAt (text : List ℕ) (n : ℕ) (rest : List ℕ) : Type 0 where
  pub word : List ℕ
  pub is : text ≡ word ++ rest
  pub numeral : is_numeral word ≡ true
  pub worth : n ≡ digits_value 10 word
  pub below : n ≤ 4294967295

-- the text begins with the end of a line, and continues with rest
abbrev pub EndsLine : List ℕ → List ℕ → Type 0
EndsLine [] rest = rest ≡ []
EndsLine (b ∷ text) rest = (b ≡ 10) × (text ≡ rest)

-- bytes that words may have: ASCII, without spaces and newlines
abbrev pub IsVisible : List ℕ → Type 0
IsVisible word = All (λ b. (32 < b) × (b < 128)) word

-- The text begins with the last word of a line, which names the message at this place of the event with this index, and
-- continues with rest after the line.
pub record HasName (text : List ℕ) (events : List (Option ℕ)) (event place : ℕ) (rest : List ℕ) : Type 0 where
  pub word : List ℕ
  pub tail : List ℕ
  pub is : text ≡ word ++ tail
  pub ends : EndsLine tail rest
  pub visible : IsVisible word
  pub line : ℕ
  pub named : name_in (length events) (sides_in word) ≡ Some (line, place)
  pub made : slice_index_or events (line - 1) None ≡ Some event

-- the first line of a text without its newline, and the text after it
pub record IsFirstLine (text line after : List ℕ) : Type 0 where
  pub first : line ≡ before_newline (take (length text - length after) text)
  pub pieces_are : pieces text ≡ take (length text - length after) text ∷ pieces after
  pub shorter : length after < length text

-- the first line of a text is this order, where events has the indexes of the earlier lines' events; after is the text
-- after the line
pub record HasOrder (text : List ℕ) (events : List (Option ℕ)) (order : Order) (after : List ℕ) : Type 0 where
  pub line : List ℕ
  pub first : IsFirstLine text line after
  pub utf8 : IsUtf8 line
  pub action : LineAction
  pub says : action_of (length events) line ≡ Some action
  pub asks : seen_action events action ≡ Seen.Asks (asked_by order)

-- the first line of a text was added to what is kept, and after is the text after it; or the line is refused
abbrev pub AddsFirst : List ℕ → Kept → Result (Bor (List ℕ)) Fault → Kept → Type 0
AddsFirst text old (Ok after) new = (line : List ℕ) × IsFirstLine text line after.now × AddsLine line old (Ok tt) new
AddsFirst text old (Err fault) new = (line : List ℕ) × (after : List ℕ) × IsFirstLine text line after × AddsLine line
    old (Err fault) new
