-- A text that grows by lines.
use Rattle.std.proofs.Common.{◌≡◌, ◌∙◌, ap, sym, ℕ, ◌+◌, ◌<◌, List, [], ◌∷◌, ◌++◌, Option, length, drop, get_or, refl, add-one, drop-cons, append_assoc, append-nil}
use Rattle.commands.specs.RunText.{AreLinesOf, LineResult, EventResult, counts_line, first_if, rest_if, line_results}
use Rattle.commands.specs.RunText.AreLinesOf.{none, more}
use Rattle.commands.specs.RunLines.{AppendsLine}
use Rattle.drivers.specs.declared.reading.Step.{Step}

-- Of the steps the first have their lines, after what stood there; these results are those of the later ones.
pub record IsLineResult (steps : List Step) (results left : List EventResult) (i : ℕ) (old now : List ℕ) : Type 0 where
  pub done : List LineResult
  pub lines : List ℕ
  pub are : AreLinesOf done lines
  pub now_is : now ≡ old ++ lines
  pub left_are : line_results steps results ≡ done ++ line_results (drop i steps) left

pub prints_none : (steps : List Step) (results : List EventResult) (old : List ℕ) → IsLineResult steps results results 0 old old
prints_none steps results old = record { done = []; lines = []; are = none; now_is = sym (append-nil old); left_are = refl }

-- one line more
pub prints_more : (steps : List Step) (results left later : List EventResult) (i : ℕ) (step other : Step) (reported : Option EventResult) (old now new : List ℕ) → IsLineResult steps results left i old now → i < length steps → step ≡ get_or steps i other
    → reported ≡ first_if step.has_event left → later ≡ rest_if step.has_event left → AppendsLine step.line reported now new → IsLineResult steps results later (i + 1) old new
prints_more steps results left later i step other reported old now new so_far within item first rest (line, is_line, is_new) =
    let front : drop i steps ≡ step ∷ drop (i + 1) steps = drop-cons steps i other within ∙ rw (← item, add-one) refl in
    let line_result : LineResult = record { line = step.line; reported = reported } in
    let next : line_results (drop i steps) left ≡ line_result ∷ line_results (drop (i + 1) steps) later = rw (front, first, rest) refl in
    record {
      done = so_far.done ++ line_result ∷ [];
      lines = so_far.lines ++ line;
      are = more so_far.done line_result so_far.lines line so_far.are is_line;
      now_is = is_new ∙ (ap (λ t. t ++ line) so_far.now_is ∙ append_assoc old so_far.lines line);
      left_are = so_far.left_are ∙ (ap (λ t. so_far.done ++ t) next ∙ sym (append_assoc so_far.done (line_result ∷ []) (line_results (drop (i + 1) steps) later)));
    }

pub same_counts : {a b c x y z : ℕ} → a ≡ x → b ≡ y → c ≡ z → counts_line a b c ≡ counts_line x y z
same_counts p q r = rw (p, q, r) refl
