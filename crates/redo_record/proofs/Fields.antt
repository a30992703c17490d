-- The order of records, field by field
use Rattle.std.proofs.Common.{◌≡◌, ℕ, Bool, true, false, List, ◌∷◌, Ordering, Less, Equal, Greater, refl, sym, ap, ◌∙◌, subst, if◌then◌else◌, arith}
use Rattle.std.specs.Ordering.{nat_cmp, ordering_then, is_lt, is_eq}
use Rattle.volume_model.specs.Common.{same_numbers, numbers_before}
use mir.Val.{bool_byte}
use Rattle.std.proofs.lemmas.Grind.{common_steps}

-- one test behind the other, whichever two come first
pub then-then : (a b c : Ordering) → ordering_then (ordering_then a b) c ≡ ordering_then a (ordering_then b c)
then-then Less b c = refl
then-then Equal b c = refl
then-then Greater b c = refl

-- Two tests are those of two lists of numbers.
pub record IsOrderOf (xs ys : List ℕ) (o : Ordering) : Type 0 where
  pub less : is_lt o ≡ numbers_before xs ys
  pub same : is_eq o ≡ same_numbers xs ys

-- one number more before the others
pub order-more : (x y : ℕ) (xs ys : List ℕ) (o : Ordering) → IsOrderOf xs ys o → IsOrderOf (x ∷ xs) (y ∷ ys) (ordering_then (nat_cmp x y) o)
order-more x y xs ys o is = grind (arith, common_steps)

-- the same, of a test with a result
pub order-then : (x y : ℕ) (xs ys : List ℕ) (first rest : Ordering) → first ≡ nat_cmp x y → IsOrderOf xs ys rest → IsOrderOf (x ∷ xs) (y ∷ ys) (ordering_then first rest)
order-then x y xs ys first rest e is = subst (λ (o : Ordering). IsOrderOf (x ∷ xs) (y ∷ ys) (ordering_then o rest)) (sym e) (order-more x y xs ys rest is)

-- a test behind two others is one behind the second
pub behind : (both first second rest : Ordering) → both ≡ ordering_then first second → ordering_then both rest ≡ ordering_then first (ordering_then second rest)
behind both first second rest e = ap (λ o. ordering_then o rest) e ∙ then-then first second rest

-- the number of a test
pub byte_of : (b : Bool) → bool_byte b ≡ (if b then 1 else 0)
byte_of true = refl
byte_of false = refl
