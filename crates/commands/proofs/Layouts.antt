-- JSON with blanks between its tokens.
use Rattle.std.proofs.Common.{◌≡◌, ◌∙◌, ap, sym, refl, subst, ℕ, ◌+◌, ◌<◌, List, [], ◌∷◌, ◌++◌, Bool, true, false, length, take, get_or, take-suc, add-one, if◌then◌else◌, append-nil}
use Rattle.commands.specs.Layout.{is_blank, is_dropped, next_place, place_after, squeezed, squeezed_from}
use Rattle.commands.specs.declared.layout.Place.{Place}
use Rattle.commands.specs.declared.layout.Place.TheVariants.{Outside}

place-append : (p : Place) (xs ys : List ℕ) → place_after p (xs ++ ys) ≡ place_after (place_after p xs) ys
unfolding place_after
place-append p [] ys = refl
place-append p (x ∷ xs) ys = place-append (next_place p x) xs ys

-- a byte that is left out or kept in front of both sides
in_front : (dropped : Bool) (x : ℕ) (ds bs cs : List ℕ) → ds ≡ bs ++ cs → (if dropped then ds else x ∷ ds) ≡ (if dropped then bs else x ∷ bs) ++ cs
in_front true x ds bs cs e = e
in_front false x ds bs cs e = ap (λ zs. x ∷ zs) e

squeezed-append : (p : Place) (xs ys : List ℕ) → squeezed_from p (xs ++ ys) ≡ squeezed_from p xs ++ squeezed_from (place_after p xs) ys
unfolding place_after squeezed_from
squeezed-append p [] ys = refl
squeezed-append p (x ∷ xs) ys =
    in_front (is_dropped p x) x (squeezed_from (next_place p x) (xs ++ ys)) (squeezed_from (next_place p x) xs) (squeezed_from (place_after (next_place p x) xs) ys)
    (squeezed-append (next_place p x) xs ys)

-- two texts are the same without the blanks outside of texts, and end at the same place
pub record AreAlike (xs ys : List ℕ) (p : Place) : Type 0 where
  pub same : squeezed xs ≡ squeezed ys
  pub left : place_after Outside xs ≡ p
  pub right : place_after Outside ys ≡ p

-- no byte yet
pub alike_none : AreAlike [] [] Outside
unfolding place_after
alike_none = record { same = refl; left = refl; right = refl }

-- one byte more of both
pub alike_more : (xs ys : List ℕ) (p : Place) (b : ℕ) → AreAlike xs ys p → AreAlike (xs ++ b ∷ []) (ys ++ b ∷ []) (next_place p b)
unfolding place_after
alike_more xs ys p b h = record {
  same = squeezed-append Outside xs (b ∷ [])
      ∙ ap (λ zs. zs ++ squeezed_from (place_after Outside xs) (b ∷ [])) h.same
      ∙ ap (λ q. squeezed ys ++ squeezed_from q (b ∷ [])) (h.left ∙ sym h.right)
      ∙ sym (squeezed-append Outside ys (b ∷ []));
  left = place-append Outside xs (b ∷ []) ∙ ap (λ q. next_place q b) h.left;
  right = place-append Outside ys (b ∷ []) ∙ ap (λ q. next_place q b) h.right;
}

-- other bytes on the left, which end at the same place
pub alike_other : (xs zs ys : List ℕ) (p : Place) → squeezed zs ≡ squeezed xs → place_after Outside zs ≡ p → AreAlike xs ys p → AreAlike zs ys p
alike_other xs zs ys p same there h = record { same = same ∙ h.same; left = there; right = h.right }

-- a blank more outside of texts
pub blank_more : (xs : List ℕ) (b : ℕ) → place_after Outside xs ≡ Outside → is_blank b ≡ true → squeezed (xs ++ b ∷ []) ≡ squeezed xs
unfolding squeezed_from
blank_more xs b there blank =
    squeezed-append Outside xs (b ∷ []) ∙ ap (λ p. squeezed xs ++ squeezed_from p (b ∷ [])) there
    ∙ ap (λ z. squeezed xs ++ (if z then [] else b ∷ [])) blank ∙ append-nil (squeezed xs)

pub still_outside : (xs : List ℕ) (b : ℕ) → place_after Outside xs ≡ Outside → next_place Outside b ≡ Outside → place_after Outside (xs ++ b ∷ []) ≡ Outside
unfolding place_after
still_outside xs b there is = place-append Outside xs (b ∷ []) ∙ ap (λ p. next_place p b) there ∙ is

-- the next byte of a line, on both sides
pub alike_step : (xs new line : List ℕ) (p q : Place) (i : ℕ) → new ≡ xs ++ get_or line i 0 ∷ [] → q ≡ next_place p (get_or line i 0) → i < length line → AreAlike xs (take i line) p → AreAlike new (take (i + 1) line) q
alike_step xs new line p q i pushed next within h =
    let more = alike_more xs (take i line) p (get_or line i 0) h in
    let left = subst (λ zs. AreAlike zs (take i line ++ get_or line i 0 ∷ []) (next_place p (get_or line i 0))) (sym pushed) more in
    let taken : take (i + 1) line ≡ take i line ++ get_or line i 0 ∷ [] = rw add-one (take-suc line i 0 within) in
    let right = subst (λ zs. AreAlike new zs (next_place p (get_or line i 0))) (sym taken) left in
    subst (AreAlike new (take (i + 1) line)) (sym next) right
