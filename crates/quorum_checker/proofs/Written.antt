-- The text of a path, number by number.
use Rattle.std.proofs.Common.{◌≡◌, ℕ, zero, suc, ◌+◌, ◌<◌, ◌≤◌, List, [], ◌∷◌, ◌++◌, length, take, get_or, arith, refl, ap, append_assoc, add-one, codes}
use Rattle.std.specs.Fmt.{decimal}
use Rattle.std.proofs.lemmas.List.{take_more}
use Rattle.quorum_checker.specs.PathText.{dotted, path_text}
use Rattle.std.proofs.lemmas.Grind.{common_steps}

nil_right : (xs : List ℕ) → xs ++ [] ≡ xs
nil_right [] = refl
nil_right (x ∷ xs) = ap (λ ys. x ∷ ys) (nil_right xs)

dotted_push : (ns : List ℕ) (n : ℕ) → dotted (ns ++ n ∷ []) ≡ dotted ns ++ (codes "." ++ decimal n)
dotted_push [] n = nil_right (codes "." ++ decimal n)
dotted_push (x ∷ ns) n = grind (arith, common_steps, codes, append_assoc, (dotted_push ns n))

-- one more number
pub text_more : (p : List ℕ) (n : ℕ) → 1 ≤ n → n < length p → path_text (take (n + 1) p) ≡ path_text (take n p) ++ (codes "." ++ decimal (get_or p n 0))
text_more [] n low high = absurd (omega arith)
text_more (x ∷ p) zero low high = absurd (omega arith)
text_more (x ∷ p) (suc n) low high = grind (arith, common_steps, (add-one (suc n)), (add-one n), (take_more p n 0 (omega arith)), (dotted_push (take n p) (get_or p n 0)), (append_assoc (decimal x) (dotted (take n p)) (codes "." ++ decimal (get_or p n 0))))
