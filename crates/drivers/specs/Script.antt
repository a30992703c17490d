-- The meaning of a script's text, line by line, and what the program keeps of it.
use Rattle.std.specs.Prelude.{◌≡◌, ℕ, suc, ◌<◌, ◌≤◌, false, true, List, [], ◌∷◌, ◌++◌, Option, Some, None, Result, Ok, Err, length, map, slice_index_or, take}
use Rattle.std.specs.List.{fold, sum_by}
use Rattle.std.specs.Str.{IsUtf8}
use Rattle.volume_model.specs.declared.fault.Fault.{Fault}
use Rattle.volume_model.specs.declared.fault.Fault.TheVariants as faults
use Rattle.drivers.specs.Grammar.{LineAction, action_of}
use Rattle.drivers.specs.Pieces.{pieces, before_newline}
use Rattle.drivers.specs.Seen.{Asked, Seen, asked_by, seen_action}
use Rattle.drivers.specs.Seen.Seen.{Silent, Pause, Asks}
use Rattle.drivers.specs.declared.reading.Step.{Step}
use Rattle.drivers.specs.declared.reading.Script.{Script}
use Rattle.drivers.specs.declared.reading.ScriptFault.{ScriptFault}
use Rattle.drivers.specs.declared.reading.ScriptFault.TheVariants as script

-- the line with this number, from 0, without its newline
abbrev pub line_at : List ℕ → ℕ → List ℕ
line_at text k = before_newline (slice_index_or (pieces text) k [])

-- The line with this number, from 0, is one of the first 100,000, lies within the first 16,777,216 bytes, is UTF-8, and
-- has this action.
pub record Does (text : List ℕ) (k : ℕ) (action : LineAction) : Type 0 where
  pub few : k < 100000
  pub within : sum_by length (take (suc k) (pieces text)) ≤ 16777216
  pub utf8 : IsUtf8 (line_at text k)
  pub says : action_of k (line_at text k) ≡ Some action

-- these are the actions of a text's first lines, in order
pub data AreActions (text : List ℕ) : List LineAction → Type 0 where
  none : AreActions text []
  more : (actions : List LineAction) (action : LineAction) → AreActions text actions → Does text (length actions) action
      → AreActions text (actions ++ action ∷ [])

-- the text is a script whose lines have these actions
pub record IsScript (text : List ℕ) (actions : List LineAction) : Type 0 where
  pub are : AreActions text actions
  pub all : length actions ≡ length (pieces text)

-- The first bad line of a text has this number, from 1: each line before it has an action, and it has none.
pub record IsFirstBad (text : List ℕ) (number : ℕ) : Type 0 where
  pub actions : List LineAction
  pub are : AreActions text actions
  pub first : number ≡ suc (length actions)
  pub there : length actions < length (pieces text)
  pub bad : (action : LineAction) → Does text (length actions) action → ⊥

-- What the program keeps of lines: the index of each line's event, a step for each line that does something, and the
-- orders.
pub record Kept : Type 0 where
  pub indexes : List (Option ℕ)
  pub steps : List Step
  pub asked : List Asked

abbrev pub nothing_kept : Kept
nothing_kept = record { indexes = []; steps = []; asked = [] }

-- the same with one more line
abbrev pub with_line : Kept → Seen → Kept
with_line kept Silent = record kept { indexes = kept.indexes ++ None ∷ [] }
with_line kept Pause = record {
  indexes = kept.indexes ++ None ∷ [];
  steps = kept.steps
      ++ (record { line = suc (length kept.indexes); has_event = false }) ∷ [];
  asked = kept.asked;
}
with_line kept (Asks asked) =
    record {
      indexes = kept.indexes ++ Some (length kept.asked) ∷ [];
      steps = kept.steps ++ (record { line = suc (length kept.indexes); has_event = true }) ∷ [];
      asked = kept.asked ++ asked ∷ [];
    }

abbrev pub with_action : Kept → LineAction → Kept
with_action kept action = with_line kept (seen_action kept.indexes action)

-- what is kept of lines with these actions
abbrev pub kept_of : List LineAction → Kept
kept_of actions = fold with_action nothing_kept actions

-- what a script under construction keeps, where indexes has those of its lines' events
abbrev pub kept_in : Script → List (Option ℕ) → Kept
kept_in script indexes = record {
  indexes = indexes;
  steps = script.steps.items;
  asked = map asked_by
      script.orders.items;
}

-- the line was added to what is kept, or isn't in the grammar; if memory ran out this says nothing
abbrev pub AddsLine : List ℕ → Kept → Result (Unit {0}) Fault → Kept → Type 0
AddsLine line old (Ok u) new = (action : LineAction) × IsUtf8 line × (action_of (length old.indexes) line ≡ Some action)
    × (new ≡ with_action old action)
AddsLine line old (Err faults.NoMemory) new = Unit {0}
AddsLine line old (Err fault) new = (action : LineAction) → IsUtf8 line → action_of (length old.indexes) line
    ≡ Some action → ⊥

-- why a script can't be run if the line with this number was refused
abbrev pub stop_at : Fault → ℕ → ScriptFault
stop_at faults.NoMemory line = script.NoMemory
stop_at fault line = script.Line line

-- the program's script has these actions
pub record Keeps (script : Script) (actions : List LineAction) : Type 0 where
  pub steps_are : script.steps.items ≡ (kept_of actions).steps
  pub orders_are : map asked_by script.orders.items ≡ (kept_of actions).asked

-- The program's script is that of the text, or the text's first bad line is named. If memory ran out this says nothing.
abbrev pub ReadsScript : List ℕ → Result Script ScriptFault → Type 0
ReadsScript text (Ok script) = (actions : List LineAction) × IsScript text actions × Keeps script actions
ReadsScript text (Err (script.Line number)) = IsFirstBad text number
ReadsScript text (Err script.NoMemory) = Unit {0}
