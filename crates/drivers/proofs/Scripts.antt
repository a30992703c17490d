-- A script that is read line by line.
use Rattle.std.proofs.Common.{◌≡◌, ◌≢◌, ◌∙◌, ap, sym, subst, ℕ, zero, suc, ◌+◌, ◌-◌, ◌<◌, ◌≤◌, List, [], ◌∷◌, ◌++◌, Option, Some, None, Ok, Err, length, drop, take, get_or, arith, refl, sum_by, length-drop, option_map}
use Rattle.std.specs.Borrow.{Bor}
use Rattle.std.specs.Str.{IsUtf8}
use Rattle.std.proofs.lemmas.List.{length-take-le, length_push}
use Rattle.std.proofs.lemmas.List.Sums.{fold-append, sum_by_push}
use Rattle.std.proofs.Math.Seq.{take-suc}
use Rattle.volume_model.specs.declared.fault.Fault.{Fault}
use Rattle.volume_model.specs.declared.fault.Fault.TheVariants.{NoMemory}
use Rattle.drivers.specs.Grammar.{LineAction, action_of}
use Rattle.drivers.specs.Named.{AddsFirst, IsFirstLine}
use Rattle.drivers.specs.Pieces.{pieces, before_newline}
use Rattle.drivers.specs.Seen.{Seen, seen_action}
use Rattle.drivers.specs.Seen.Seen.{Silent, Pause, Asks}
use Rattle.drivers.specs.Script.{AddsLine, AreActions, Does, IsFirstBad, IsScript, Keeps, Kept, ReadsScript, kept_in, kept_of, line_at, nothing_kept, stop_at, with_action, with_line}
use Rattle.drivers.specs.Script.AreActions.{none, more}
use Rattle.drivers.specs.declared.reading.Script.{Script}
use Rattle.drivers.proofs.Lines.{first_there}

-- Of a text the first lines were read; what comes after them is the rest, and there is so much room for it.
pub record IsReading (text rest : List ℕ) (room : ℕ) (now : Kept) : Type 0 where
  pub actions : List LineAction
  pub are : AreActions text actions
  pub kept : now ≡ kept_of actions
  pub lines : length now.indexes ≡ length actions
  pub held : length actions ≤ length (pieces text)
  pub after : drop (length actions) (pieces text) ≡ pieces rest
  pub bytes : sum_by length (take (length actions) (pieces text)) + room ≡ 16777216

-- before any line
pub starts : (text : List ℕ) → IsReading text text 16777216 nothing_kept
starts text = record { actions = []; are = none; kept = refl; lines = refl; held = omega arith; after = refl; bytes = refl }

one_line_more : (kept : Kept) (seen : Seen) → length (with_line kept seen).indexes ≡ suc (length kept.indexes)
one_line_more kept Silent = length_push kept.indexes None ∙ omega arith
one_line_more kept Pause = length_push kept.indexes None ∙ omega arith
one_line_more kept (Asks asked) = length_push kept.indexes (Some (length kept.asked)) ∙ omega arith

-- the next line of a list, and those after it
next_of : (xs : List (List ℕ)) (k : ℕ) (x : List ℕ) (ys : List (List ℕ)) → drop k xs ≡ x ∷ ys → (k < length xs) × (get_or xs k [] ≡ x) × (drop (suc k) xs ≡ ys)
next_of [] zero x ys e = absurd cc
next_of [] (suc k) x ys e = absurd cc
next_of (z ∷ zs) zero x ys e = (omega arith, cc, cc)
next_of (z ∷ zs) (suc k) x ys e = let later = next_of zs k x ys e in (omega (arith, later.0), later.1, later.2)

bytes_to : (text : List ℕ) (k : ℕ) (x : List ℕ) → k < length (pieces text) → get_or (pieces text) k [] ≡ x → sum_by length (take (suc k) (pieces text)) ≡ sum_by length (take k (pieces text)) + length x
bytes_to text k x below e = ap (sum_by length) (take-suc (pieces text) k [] below) ∙ (sum_by_push length (take k (pieces text)) (get_or (pieces text) k []) ∙ ap (λ y. sum_by length (take k (pieces text)) + length y) e)

-- the line after those that were read
pub record IsNext (rest line after : List ℕ) (bytes : ℕ) : Type 0 where
  pub first : line ≡ before_newline (take bytes rest)
  pub pieces_are : pieces rest ≡ take bytes rest ∷ pieces after
  pub long : length (take bytes rest) ≡ bytes

-- one line more
pub reads_more : (text rest line later : List ℕ) (room bytes : ℕ) (now new : Kept) (u : Unit {0}) → IsReading text rest room now → IsNext rest line later bytes → bytes ≤ room → suc (length now.indexes) ≤ 100000
    → AddsLine line now (Ok u) new → IsReading text later (room - bytes) new
reads_more text rest line later room bytes now new u so_far next fits few (action, utf8, says, is_new) =
    let k = length so_far.actions in
    let there = next_of (pieces text) k (take bytes rest) (pieces later) (so_far.after ∙ next.pieces_are) in
    let here : line_at text k ≡ line = ap before_newline there.1 ∙ sym next.first in
    let upto : sum_by length (take (suc k) (pieces text)) ≡ sum_by length (take k (pieces text)) + bytes = bytes_to text k (take bytes rest) there.0 there.1 ∙ ap (λ n. sum_by length (take k (pieces text)) + n) next.long in
    let does : Does text k action = record {
      few = omega (arith, so_far.lines, few);
      within = omega (arith, upto, so_far.bytes, fits);
      utf8 = subst IsUtf8 (sym here) utf8;
      says = ap (action_of k) here ∙ (ap (λ n. action_of n line) (sym so_far.lines) ∙ says);
    } in
    let pushed : length (so_far.actions ++ action ∷ []) ≡ suc k = length_push so_far.actions action ∙ omega arith in
    record {
      actions = so_far.actions ++ action ∷ [];
      are = more so_far.actions action so_far.are does;
      kept = is_new ∙ (ap (λ n. with_action n action) so_far.kept ∙ sym (fold-append with_action nothing_kept so_far.actions (action ∷ [])));
      lines = ap (λ (n : Kept). length n.indexes) is_new ∙ (one_line_more now (seen_action now.indexes action) ∙ (ap suc so_far.lines ∙ sym pushed));
      held = omega (arith, pushed, there.0);
      after = rw pushed there.2;
      bytes = rw pushed (omega (arith, upto, so_far.bytes, fits));
    }

-- a line that may not stand there is the first bad one
pub reads_bad : (text rest line later : List ℕ) (room bytes number : ℕ) (now : Kept) → number ≡ suc (length now.indexes) → IsReading text rest room now → IsNext rest line later bytes
    → ((action : LineAction) → bytes ≤ room → suc (length now.indexes) ≤ 100000 → IsUtf8 line → action_of (length now.indexes) line ≡ Some action → ⊥) → IsFirstBad text number
reads_bad text rest line later room bytes number now numbered so_far next refused =
    let k = length so_far.actions in
    let there = next_of (pieces text) k (take bytes rest) (pieces later) (so_far.after ∙ next.pieces_are) in
    let here : line_at text k ≡ line = ap before_newline there.1 ∙ sym next.first in
    let upto : sum_by length (take (suc k) (pieces text)) ≡ sum_by length (take k (pieces text)) + bytes = bytes_to text k (take bytes rest) there.0 there.1 ∙ ap (λ n. sum_by length (take k (pieces text)) + n) next.long in
    record {
      actions = so_far.actions;
      are = so_far.are;
      first = numbered ∙ ap suc so_far.lines;
      there = there.0;
      bad = λ action does. refused action (omega (arith, upto, so_far.bytes, does.within)) (omega (arith, so_far.lines, does.few)) (subst IsUtf8 here does.utf8)
          (ap (λ n. action_of n line) so_far.lines ∙ (ap (action_of k) (sym here) ∙ does.says));
    }

-- a line that was refused ends the reading
pub reads_fault : (text rest line later : List ℕ) (room bytes number : ℕ) (now new : Kept) (fault : Fault) → number ≡ suc (length now.indexes) → IsReading text rest room now → IsNext rest line later bytes
    → AddsLine line now (Err fault) new → ReadsScript text (Err (stop_at fault number))
reads_fault text rest line later room bytes number now new NoMemory numbered so_far next refused = tt
reads_fault text rest line later room bytes number now new fault numbered so_far next refused =
    reads_bad text rest line later room bytes number now numbered so_far next (λ action fits few utf8 says. refused action utf8 says)

nil_of : (xs : List ℕ) → length xs ≤ 0 → xs ≡ []
nil_of [] h = refl
nil_of (x ∷ xs) h = absurd (omega arith)

-- where nothing is left, the text is a script
pub reads_all : (text rest : List ℕ) (room : ℕ) (script : Script) (indexes : List (Option ℕ)) → length rest ≤ 0 → IsReading text rest room (kept_in script indexes)
    → (actions : List LineAction) × IsScript text actions × Keeps script actions
reads_all text rest room script indexes empty so_far =
    let over : drop (length so_far.actions) (pieces text) ≡ [] = so_far.after ∙ ap pieces (nil_of rest empty) in
    let left : length (pieces text) - length so_far.actions ≡ 0 = sym (length-drop (length so_far.actions) (pieces text)) ∙ ap length over in
    let whole : length so_far.actions ≡ length (pieces text) = omega (arith, left, so_far.held) in
    (so_far.actions, record { are = so_far.are; all = whole }, record { steps_are = ap (λ (n : Kept). n.steps) so_far.kept; orders_are = ap (λ (n : Kept). n.asked) so_far.kept })

-- an empty script keeps nothing
pub starts_empty : (text : List ℕ) (script : Script) (indexes : List (Option ℕ)) → script.steps.items ≡ [] → script.orders.items ≡ [] → indexes ≡ [] → IsReading text text 16777216 (kept_in script indexes)
starts_empty text script indexes no_steps no_orders no_indexes =
    let nothing : kept_in script indexes ≡ nothing_kept = rw (no_steps, no_orders, no_indexes) refl in
    subst (λ (n : Kept). IsReading text text 16777216 n) (sym nothing) (starts text)

-- what the first line is
pub next_line : (rest line after : List ℕ) → IsFirstLine rest line after → IsNext rest line after (length rest - length after)
next_line rest line after f = record { first = f.first; pieces_are = f.pieces_are; long = length-take-le (length rest - length after) rest (omega (arith, f.shorter)) }

-- a line that asks for something says an action that asks for it
pub action_seen : (there : Option LineAction) (events : List (Option ℕ)) (asks : Seen) → option_map (seen_action events) there ≡ Some asks → (action : LineAction) × (there ≡ Some action) × (seen_action events action ≡ asks)
action_seen None events asks e = absurd cc
action_seen (Some action) events asks e = let same : seen_action events action ≡ asks = cc in (action, refl, same)

module _ (text rest : List ℕ) (room number : ℕ) (now new : Kept) (so_far : IsReading text rest room now) where
  -- the first line of the rest was added
  pub reads_next : (after : Bor (List ℕ)) → AddsFirst rest now (Ok after) new → length rest - length after.now ≤ room → suc (length now.indexes) ≤ 100000 → IsReading text after.now (room - (length rest - length after.now)) new
  reads_next after (line, first, adds) fits few = reads_more text rest line after.now room (length rest - length after.now) now new tt so_far (next_line rest line after.now first) fits few adds

  -- or it doesn't fit
  pub reads_over : (after : Bor (List ℕ)) → AddsFirst rest now (Ok after) new → number ≡ suc (length now.indexes) → room < length rest - length after.now → IsFirstBad text number
  reads_over after (line, first, adds) numbered over =
      reads_bad text rest line after.now room (length rest - length after.now) number now numbered so_far (next_line rest line after.now first) (λ action fits few utf8 says. omega (arith, fits, over))

  -- or it was refused
  pub reads_refused : (fault : Fault) → AddsFirst rest now (Err fault) new → number ≡ suc (length now.indexes) → ReadsScript text (Err (stop_at fault number))
  reads_refused fault (line, after, first, refused) numbered =
      reads_fault text rest line after room (length rest - length after) number now new fault numbered so_far (next_line rest line after first) refused

  -- or there were too many before it
  pub reads_after_growth : rest ≢ [] → number ≡ suc (length now.indexes) → 100000 < number → IsFirstBad text number
  reads_after_growth some numbered late = go (first_there rest some)
    where
      go : (line : List ℕ) × (after : List ℕ) × IsFirstLine rest line after → IsFirstBad text number
      go (line, after, first) =
          reads_bad text rest line after room (length rest - length after) number now numbered so_far (next_line rest line after first) (λ action fits few utf8 says. omega (arith, few, late, numbered))
