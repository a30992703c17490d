-- Lists whose elements are seen as others, one by one, as entries are as those of the model.
use Rattle.std.proofs.Common.{◌≡◌, ℕ, zero, suc, List, [], ◌∷◌, ◌++◌, length, map, Some, option_map, refl, sym, ap, ◌∙◌, slice_get}
use mathlib.Core.List.{IsPrefix}

module _ {A B : Type 0} (f : A → B) where
  pub map-append : (xs ys : List A) → map f (xs ++ ys) ≡ map f xs ++ map f ys
  map-append [] ys = refl
  map-append (x ∷ xs) ys = ap (λ (l : List B). f x ∷ l) (map-append xs ys)

  pub map-prefix : (xs ys : List A) → IsPrefix xs ys → IsPrefix (map f xs) (map f ys)
  map-prefix xs ys p = (map f p.0, sym (map-append xs p.0) ∙ ap (map f) p.1)

  pub map-get : (xs : List A) (k : ℕ) → slice_get (map f xs) k ≡ option_map f (slice_get xs k)
  map-get [] k = refl
  map-get (x ∷ xs) zero = refl
  map-get (x ∷ xs) (suc k) = map-get xs k

  pub map-there : (xs : List A) (k : ℕ) (x : A) → slice_get xs k ≡ Some x → slice_get (map f xs) k ≡ Some (f x)
  map-there xs k x h = map-get xs k ∙ ap (option_map f) h

  pub map-length : (xs : List A) → length (map f xs) ≡ length xs
  map-length [] = refl
  map-length (x ∷ xs) = ap suc (map-length xs)
