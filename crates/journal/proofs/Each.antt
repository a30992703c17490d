-- What all elements of a list have.
use Rattle.std.proofs.Common.{zero, suc, List, [], ◌∷◌, ◌++◌, map, All, arith}

module _ {A B : Type 0} where
  pub all_map : (f : A → B) (P : B → Type 0) (xs : List A) → All (λ x. P (f x)) xs → All P (map f xs)
  all_map f P [] all k d lt = absurd (omega arith)
  all_map f P (x ∷ xs) all zero d lt = all zero x (omega arith)
  all_map f P (x ∷ xs) all (suc k) d lt = all_map f P xs (λ n y l. all (suc n) y (omega arith)) k d (omega arith)

module _ {A : Type 0} where
  pub all_push : (P : A → Type 0) (xs : List A) (x : A) → All P xs → P x → All P (xs ++ x ∷ [])
  all_push P [] x all here zero d lt = here
  all_push P [] x all here (suc k) d lt = absurd (omega arith)
  all_push P (y ∷ xs) x all here zero d lt = all zero y (omega arith)
  all_push P (y ∷ xs) x all here (suc k) d lt = all_push P xs x (λ n z l. all (suc n) z (omega arith)) here k d (omega arith)
