-- Records that a cursor still has to read.
use Rattle.std.proofs.Common.{◌≡◌, ℕ, zero, suc, ◌+◌, ◌<◌, List, [], ◌∷◌, ◌++◌, length, take, drop, ap, arith}
use Rattle.volume_model.specs.Common.{Redo}
use Rattle.std.proofs.lemmas.Grind.{common_steps}

no-more : (r : Redo) (rest : List Redo) → (0 ≡ length (r ∷ rest)) → ⊥
no-more r rest e = omega (arith, e)

-- the next record is at the place of those that were read
pub next-taken : (xs rest : List Redo) (n : ℕ) (r : Redo) → drop n xs ≡ r ∷ rest → (n < length xs) × ((take (n + 1) xs ≡ take n xs ++ r ∷ []) × (drop (n + 1) xs ≡ rest))
next-taken [] rest zero r is = absurd (no-more r rest (ap (length {A = Redo}) is))
next-taken [] rest (suc n) r is = absurd (no-more r rest (ap (length {A = Redo}) is))
next-taken (x ∷ xs) rest zero r is = (omega arith, (ap (λ (rs : List Redo). take 1 rs) is, ap (λ (rs : List Redo). drop 1 rs) is))
next-taken (x ∷ xs) rest (suc n) r is = grind (arith, common_steps, (next-taken xs rest n r is))
