-- The order of lists of numbers is that of slices.
use Rattle.std.proofs.Common.{◌≡◌, ℕ, List, Ordering, refl, arith}
use Rattle.std.proofs.lemmas.Bool.Decides.{nat_tests}
use Rattle.std.proofs.lemmas.Cmp.{same_from_slice_cmp}
use Rattle.std.specs.Ordering.{nat_cmp, is_lt, is_eq}
use Rattle.std.specs.Cmp.Lexicographic.{slice_cmp}
use Rattle.volume_model.specs.Common.{same_numbers, numbers_before}

pub is_lt-numbers : (xs ys : List ℕ) (o : Ordering) → o ≡ slice_cmp nat_cmp xs ys → is_lt o ≡ numbers_before xs ys
is_lt-numbers = same_from_slice_cmp nat_cmp is_lt numbers_before refl (λ _ _. refl) (λ _ _. refl) (λ x y xs ys o h. grind (arith, nat_tests))

pub is_eq-numbers : (xs ys : List ℕ) (o : Ordering) → o ≡ slice_cmp nat_cmp xs ys → is_eq o ≡ same_numbers xs ys
is_eq-numbers = same_from_slice_cmp nat_cmp is_eq same_numbers refl (λ _ _. refl) (λ _ _. refl) (λ x y xs ys o h. grind (arith, nat_tests))
