-- Lists of numbers that pass a test, one number after the other.
use Rattle.std.proofs.Common.{◌≡◌, ℕ, suc, ◌+◌, Bool, if◌then◌else◌, List, [], ◌∷◌, ◌++◌, sym, ap, ap₂, ◌∙◌, add-one}
use Rattle.volume_model.specs.Common.{each_below}

-- what a number adds to the list of those below it
abbrev pub at_number : {A : Type 0} → (ℕ → Bool) → (ℕ → A) → ℕ → List A
at_number test f n = if test n then f n ∷ [] else []

-- one more
pub each-next : {A : Type 0} (test : ℕ → Bool) (f : ℕ → A) (n : ℕ) (old new last : List A) → old ≡ each_below n test f
    → new ≡ old ++ last → last ≡ at_number test f n → new ≡ each_below (n + 1) test f
each-next test f n old new last before more is =
    more ∙ ap₂ (λ xs ys. xs ++ ys) before is ∙ ap (λ k. each_below k test f) (sym (add-one n))

-- the last one
pub each-last : {A : Type 0} (test : ℕ → Bool) (f : ℕ → A) (n end : ℕ) (old new last : List A) → n ≡ end
    → old ≡ each_below n test f → new ≡ old ++ last → last ≡ at_number test f end
    → new ≡ each_below (suc end) test f
each-last test f n end old new last ends before more is =
    more ∙ ap₂ (λ xs ys. xs ++ ys) (before ∙ ap (λ k. each_below k test f) ends) is
