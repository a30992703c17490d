-- The parts of a text between separators.
use Rattle.std.proofs.Common.{◌≡◌, ◌≢◌, ◌∙◌, ap, sym, ℕ, ◌+◌, ◌<◌, Bool, true, false, List, [], ◌∷◌, ◌++◌, Option, Some, None, IsTrue, length, get_or, take, drop, All, refl, take-append-drop, eqb, not, arith}
use Rattle.std.specs.Borrow.{Bor}
use Rattle.std.specs.List.{slice_split}
use Rattle.std.specs.Option.{is_some}
use Rattle.std.proofs.lemmas.List.{drop_more}
use Rattle.std.proofs.lemmas.List.Splits.{length-slice_split, slice_split_at}
use Rattle.drivers.specs.Parts.{left_of}

-- the first part ends at the first separator
pub split_at : (p : ℕ → Bool) (xs : List ℕ) (i : ℕ) → i < length xs → p (get_or xs i 0) ≡ true → All (λ x. p x ≡ false) (take i xs) → slice_split p xs ≡ take i xs ∷ slice_split p (drop (i + 1) xs)
split_at p xs i within here before =
    let parts : xs ≡ take i xs ++ get_or xs i 0 ∷ drop (i + 1) xs = sym (take-append-drop i xs) ∙ ap (λ zs. take i xs ++ zs) (drop_more xs i 0 within) in
    ap (slice_split p) parts ∙ slice_split_at p (take i xs) (get_or xs i 0) (drop (i + 1) xs) before here

-- there is one part at least
split_some : (p : ℕ → Bool) (xs : List ℕ) → slice_split p xs ≢ []
split_some p xs none = absurd (omega (arith, length-slice_split p xs, ap length none))

-- where no text is left no part is
pub none_left : (separator : ℕ) (left : Option (Bor (List ℕ))) (none : Bool) → is_some left ≡ not none → (IsTrue none → left_of separator left ≡ []) × (left_of separator left ≡ [] → IsTrue none)
none_left separator None true e = (λ is. refl, λ empty. refl)
none_left separator None false e = absurd cc
none_left separator (Some text) true e = absurd cc
none_left separator (Some text) false e = (λ is. absurd cc, λ empty. absurd (split_some (λ b. eqb b separator) text.now empty))
