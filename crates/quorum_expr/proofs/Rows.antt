-- Rows of children whose weights are known before the children are.
use Rattle.std.proofs.Common.{◌≡◌, ◌≢◌, ℕ, zero, suc, ◌+◌, ◌-◌, ◌*◌, ◌<◌, ◌≤◌, List, [], ◌∷◌, ◌++◌, length, arith, refl, ap, subst, ◌∙◌, sym, Bool, true, false, ◌&&◌, nat_le, Vec}
use Rattle.volume_model.specs.Common.{Formula, at_least, no_child, child, formulas, total_weight, each_once}
use Rattle.volume_model.specs.Formula.{member}
use Rattle.quorum_expr.specs.declared.expression.Expr.{Expr}
use Rattle.quorum_expr.specs.declared.expression.Expr.TheVariants.{KOf}
use Rattle.quorum_expr.specs.Expr.{formula_of, weighed}
use Rattle.quorum_expr.specs.Valid.{each_fits, good_choice, nodes, row_nodes}
use Rattle.quorum_expr.specs.Reading.{Weights, weight_of, weighing, unread, good_row}
use Rattle.quorum_expr.specs.Forms.{formulas_of, HaveWeights}
use Rattle.quorum_expr.proofs.ExprLaws.{formula_of-KOf}
use Rattle.quorum_expr.proofs.Weighed.{fits_more, fits_not, no_room, tested, bad_weight}
use Rattle.std.proofs.lemmas.Grind.{common_steps}

-- ---- only the weights matter

unread-length : (n : ℕ) → length (unread n) ≡ n
unread-length zero = refl
unread-length (suc n) = ap suc (unread-length n)

formulas-weighing : (ws : Weights) (i : ℕ) (fs : List Formula) → formulas (weighing ws i fs) ≡ fs
formulas-weighing ws i [] = refl
formulas-weighing ws i (f ∷ fs) = ap (λ gs. f ∷ gs) (formulas-weighing ws (i + 1) fs)

total-unread : (ws : Weights) (i : ℕ) (fs : List Formula) → total_weight (weighing ws i fs) ≡ total_weight (weighing ws i (unread (length fs)))
total-unread ws i [] = refl
total-unread ws i (f ∷ fs) = ap (λ n. weight_of ws i + n) (total-unread ws (i + 1) fs)

fits-unread : (ws : Weights) (i : ℕ) (fs : List Formula) → each_fits (weighing ws i fs) ≡ each_fits (weighing ws i (unread (length fs)))
fits-unread ws i [] = refl
fits-unread ws i (f ∷ fs) = ap (λ b. nat_le 1 (weight_of ws i) && (nat_le (weight_of ws i) 255 && b)) (fits-unread ws (i + 1) fs)

row-length : (ws : Weights) (n : ℕ) → length (formulas (weighing ws 0 (unread n))) ≡ n
row-length ws n = ap length (formulas-weighing ws 0 (unread n)) ∙ unread-length n

-- a row is tested before its children are read
pub row-read : (k : ℕ) (ws : Weights) (fs : List Formula) → good_choice k (weighing ws 0 fs) ≡ good_row k (length fs) ws
row-read k ws fs = grind (arith, common_steps, fits-unread, total-unread, formulas-weighing, row-length)

pub nodes-weighing : (ws : Weights) (i : ℕ) (fs : List Formula) → row_nodes (weighing ws i fs) ≡ row_nodes (each_once fs)
nodes-weighing ws i [] = refl
nodes-weighing ws i (f ∷ fs) = ap (λ n. nodes f + n) (nodes-weighing ws (i + 1) fs)

-- ---- weight by weight

unread-next : (n i : ℕ) → i < n → unread (n - i) ≡ member 0 ∷ unread (n - (i + 1))
unread-next n i h = let more : n - i ≡ suc (n - (i + 1)) = omega arith in ap unread more

pub row-step : (ws : Weights) (n i : ℕ) → i < n → weighing ws i (unread (n - i)) ≡ child (weight_of ws i) (member 0) (weighing ws (i + 1) (unread (n - (i + 1))))
row-step ws n i h = ap (weighing ws i) (unread-next n i h)

pub row-done : (ws : Weights) (n i : ℕ) → n ≤ i → weighing ws i (unread (n - i)) ≡ no_child
row-done ws n i h = let none : n - i ≡ 0 = omega arith in ap (λ m. weighing ws i (unread m)) none

pub row-fits : (ws : Weights) (n i w : ℕ) (whole : Bool) → i < n → w ≡ weight_of ws i → w ≢ 0 → w ≤ 255 → each_fits (weighing ws i (unread (n - i))) ≡ whole → each_fits (weighing ws (i + 1) (unread (n - (i + 1)))) ≡ whole
row-fits ws n i w whole h same some few so_far = grind (arith, common_steps, fits_more, row-step)

pub row-total : (ws : Weights) (n i w now all whole : ℕ) → i < n → w ≡ weight_of ws i → now ≡ all + w → all + total_weight (weighing ws i (unread (n - i))) ≡ whole → now + total_weight (weighing ws (i + 1) (unread (n - (i + 1)))) ≡ whole
row-total ws n i w now all whole h same more so_far = grind (arith, common_steps, row-step)

pub row-long : (k n : ℕ) (ws : Weights) → 64 < n → false ≡ good_row k n ws
row-long k n ws h = no_room (each_fits (weighing ws 0 (unread n))) k (total_weight (weighing ws 0 (unread n))) _ (subst (λ m. 64 < m) (sym (row-length ws n)) h)

pub row-unfit : (k n i w : ℕ) (ws : Weights) → i < n → w ≡ weight_of ws i → w ≡ 0 → each_fits (weighing ws i (unread (n - i))) ≡ each_fits (weighing ws 0 (unread n)) → false ≡ good_row k n ws
row-unfit k n i w ws h same none so_far = grind (arith, common_steps, bad_weight, row-step, fits_not)

pub row-judged : (k n i all : ℕ) (ws : Weights) → n ≤ 64 → n ≤ i → each_fits (weighing ws i (unread (n - i))) ≡ each_fits (weighing ws 0 (unread n)) → all + total_weight (weighing ws i (unread (n - i))) ≡ total_weight (weighing ws 0 (unread n)) → (nat_le 1 k && nat_le k all) ≡ good_row k n ws
row-judged k n i all ws few past fits total = grind (arith, common_steps, row-done, tested, row-length)

pub row-small : (k n all i count : ℕ) → n ≡ k → nat_le n all ≡ true → all ≤ 255 * i → i ≤ count → count ≤ 64 → k ≤ 16320
row-small k n all i count same held low within few = grind (arith, common_steps)

-- ---- children with the weights of a row

have_pushed : {A : Type 0} (ws : Weights) (i : ℕ) (es : List (ℕ × Expr A)) (e : ℕ × Expr A) → HaveWeights ws i es → e.0 ≡ weight_of ws (i + length es) → HaveWeights ws i (es ++ e ∷ [])
have_pushed ws i [] e h is = (is ∙ ap (weight_of ws) (omega arith), tt)
have_pushed ws i (x ∷ es) e h is = (h.0, have_pushed ws (i + 1) es e h.1 (is ∙ ap (weight_of ws) (omega arith)))

-- one more child has the next weight
pub weights_pushed : {A : Type 0} (ws : Weights) (before after : List (ℕ × Expr A)) (e : ℕ × Expr A) (n : ℕ) → after ≡ before ++ e ∷ [] → n ≡ length before → e.0 ≡ weight_of ws n → HaveWeights ws 0 before → HaveWeights ws 0 after
weights_pushed ws before after e n more many is h =
    subst (HaveWeights ws 0) (sym more) (have_pushed ws 0 before e h (is ∙ ap (weight_of ws) (omega (arith, many))))

weighed-have : {A : Type 0} (ws : Weights) (i : ℕ) (es : List (ℕ × Expr A)) → HaveWeights ws i es → weighed formula_of es ≡ weighing ws i (formulas_of es)
weighed-have ws i [] h = refl
weighed-have ws i (x ∷ es) h = λ j. child (h.0 j) (formula_of x.1) (weighed-have ws (i + 1) es h.1 j)

-- a threshold of such children
pub choice_read : {A : Type 0} (k n : ℕ) (ws : Weights) (of : Vec (ℕ × Expr A) A) → n ≡ k → HaveWeights ws 0 of.items → formula_of (KOf n of) ≡ at_least k (weighing ws 0 (formulas_of of.items))
choice_read k n ws of is have = formula_of-KOf n of ∙ (λ i. at_least (is i) (weighed-have ws 0 of.items have i))
