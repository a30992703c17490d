-- What the weights of children add up to, whatever their formulas are.
use Rattle.std.proofs.Common.{◌≡◌, ℕ, zero, suc, ◌+◌, ◌<◌, ◌≤◌, List, [], ◌∷◌, length, get_or, map, min, arith, refl, ap, sym, ◌&&◌, nat_lt}
use Rattle.volume_model.specs.Common.{Formula, total_weight, formulas, weight_at, each_weighs}
use Rattle.quorum_expr.specs.Common.{weighed}
use Rattle.quorum_checker.specs.Items.{bare}
use Rattle.quorum_checker.specs.Refutes.{picked_weight, paired_weight}

-- ---- the formulas don't matter

pub bare-total : {X : Type 0} (f : X → Formula) (xs : List (ℕ × X)) → total_weight (weighed f xs) ≡ total_weight (bare xs)
bare-total f [] = refl
bare-total f (x ∷ xs) = ap (λ n. x.0 + n) (bare-total f xs)

pub bare-weighs : {X : Type 0} (f : X → Formula) (xs : List (ℕ × X)) → each_weighs (weighed f xs) ≡ each_weighs (bare xs)
bare-weighs f [] = refl
bare-weighs f (x ∷ xs) = ap (λ b. nat_lt 0 x.0 && b) (bare-weighs f xs)

bare-at : {X : Type 0} (f : X → Formula) (xs : List (ℕ × X)) (c : ℕ) → weight_at (weighed f xs) c ≡ weight_at (bare xs) c
bare-at f [] c = refl
bare-at f (x ∷ xs) zero = refl
bare-at f (x ∷ xs) (suc c) = bare-at f xs c

pub bare-picked : {X : Type 0} (f : X → Formula) (xs : List (ℕ × X)) (cs : List ℕ) → picked_weight (weighed f xs) cs ≡ picked_weight (bare xs) cs
bare-picked f xs [] = refl
bare-picked f xs (c ∷ cs) = λ i. bare-at f xs c i + bare-picked f xs cs i

pub bare-paired : {X Y : Type 0} (f : X → Formula) (g : Y → Formula) (xs : List (ℕ × X)) (ys : List (ℕ × Y)) (ps : List (ℕ × ℕ)) → paired_weight (weighed f xs) (weighed g ys) ps ≡ paired_weight (bare xs) (bare ys) ps
bare-paired f g xs ys [] = refl
bare-paired f g xs ys (p ∷ ps) = λ i. min (bare-at f xs p.0 i) (bare-at g ys p.1 i) + bare-paired f g xs ys ps i

pub formulas-weighed : {X : Type 0} (f : X → Formula) (xs : List (ℕ × X)) → formulas (weighed f xs) ≡ map (λ (x : ℕ × X). f x.1) xs
formulas-weighed f [] = refl
formulas-weighed f (x ∷ xs) = ap (λ fs. f x.1 ∷ fs) (formulas-weighed f xs)

-- ---- child by child

-- the weight of the child with a number
pub weight-some : {X : Type 0} (xs : List (ℕ × X)) (n : ℕ) (x : ℕ × X) → n < length xs → x ≡ get_or xs n x → weight_at (bare xs) n ≡ x.0
weight-some [] n x h is = absurd (omega arith)
weight-some (y ∷ xs) zero x h is = ap (λ (z : ℕ × _). z.0) (sym is)
weight-some (y ∷ xs) (suc n) x h is = weight-some xs n x (omega arith) is

pub weight-none : {X : Type 0} (xs : List (ℕ × X)) (n : ℕ) → length xs ≤ n → weight_at (bare xs) n ≡ 0
weight-none [] n h = refl
weight-none (y ∷ xs) zero h = absurd (omega arith)
weight-none (y ∷ xs) (suc n) h = weight-none xs n (omega arith)
