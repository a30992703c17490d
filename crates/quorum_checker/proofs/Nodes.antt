-- The items of a node, by their formulas.
use Rattle.std.proofs.Common.{◌≡◌, ℕ, zero, suc, ◌+◌, ◌<◌, ◌≤◌, List, [], ◌∷◌, arith, length, map, refl, ap, ◌∙◌, sym, subst, Bool, true, false, ◌&&◌, nat_lt, Vec, Option, if◌then◌else◌, ◌==◌, None, Some, slice_get, true≢false}
use Rattle.std.proofs.lemmas.Bool.Decides.{nat_tests}
use Rattle.quorum_expr.specs.declared.expression.Expr.{Expr}
use Rattle.quorum_expr.specs.declared.expression.Expr.TheVariants.{KOf}
use Rattle.volume_model.specs.Common.{Formula, at_least, each_weighs, HasCounts}
use Rattle.volume_model.specs.Formula.{member}
use Rattle.quorum_expr.specs.Common.{formula_of, weighed, formulas_of, expression_fault}
use Rattle.quorum_expr.proofs.Weighed.{length-weighed}
use Rattle.quorum_expr.proofs.ExprLaws.{formula_of-KOf}
use Rattle.quorum_expr.proofs.ValidLaws.{HasCounts-from}
use Rattle.volume_model.specs.declared.fault.Fault.{Fault}
use Rattle.volume_model.specs.declared.fault.Fault.TheVariants.{NotAll, BadPair, TooFewPicked, CountTooSmall, BranchCount}
use Rattle.quorum_checker.specs.declared.item.Threshold.{Threshold}
use Rattle.quorum_checker.specs.Items.{shown_as, bare, IsThreshold}
use Rattle.quorum_checker.proofs.Sums.{bare-total, bare-weighs, bare-picked, bare-paired, formulas-weighed}
use Rattle.quorum_checker.specs.Refutes.{picked_weight, paired_weight}
use Rattle.quorum_checker.specs.FirstFault.{good_places, children_of, open_fault, pick_fault, pair_fault}
use Rattle.std.proofs.lemmas.Grind.{common_steps}

pub formula_of-is : {A : Type 0} (e : Expr A) (k : ℕ) (of : Vec (ℕ × Expr A) A) → e ≡ KOf k of → formula_of e ≡ at_least k (weighed formula_of of.items)
formula_of-is e k of is = ap formula_of is ∙ formula_of-KOf k of

pub children_of-is : {A : Type 0} (e : Expr A) (k : ℕ) (of : Vec (ℕ × Expr A) A) → e ≡ KOf k of → children_of (formula_of e) ≡ formulas_of of.items
children_of-is e k of is = ap children_of (formula_of-is e k of is) ∙ formulas-weighed formula_of of.items

-- a valid threshold has at most 64 children
pub few_children : {A : Type 0} (e : Expr A) (k : ℕ) (of : Vec (ℕ × Expr A) A) → e ≡ KOf k of → expression_fault (formula_of e) ≡ None → length of.items ≤ 64
few_children e k of is valid =
    let counts = subst HasCounts (formula_of-is e k of is) (HasCounts-from (formula_of e) valid) in
    subst (λ n. n ≤ 64) (length-weighed formula_of of.items) counts.2

pub open_fault-is : {A : Type 0} (is_dual : Bool) (f : Formula) (t : Threshold A) → IsThreshold is_dual f t → open_fault f ≡ (if t.asked == t.total && each_weighs (bare t.of.now) then None else Some NotAll)
open_fault-is is_dual f t h =
    ap open_fault h.0
    ∙ (λ i. if t.asked == (bare-total (shown_as is_dual) t.of.now ∙ sym h.1) i && bare-weighs (shown_as is_dual) t.of.now i then None else Some NotAll)

-- ---- good places

-- of good places the first is below the bound, and the others are good
pub split_places : (n c : ℕ) (cs : List ℕ) → good_places n (c ∷ cs) ≡ true → (c < n) × (good_places n cs ≡ true)
split_places n c cs h = grind (arith, common_steps)

-- `pick_fault` by what the code counts
abbrev pub plain_pick : ℕ → ℕ → ℕ → ℕ → List ℕ → ℕ → Option Fault
plain_pick m all k picked cs n =
    (if good_places m cs
    then (if nat_lt all (k + picked) then (if n == length cs then None else Some BranchCount) else Some TooFewPicked)
    else Some BadPair)

pub pick_fault-is : {A : Type 0} (is_dual : Bool) (f : Formula) (t : Threshold A) (cs : List ℕ) (n : ℕ) → IsThreshold is_dual f t → pick_fault f cs n ≡ plain_pick (length t.of.now) t.total t.asked (picked_weight (bare t.of.now) cs) cs n
pick_fault-is is_dual f t cs n h =
    ap (λ g. pick_fault g cs n) h.0
    ∙ (λ i. plain_pick (length-weighed (shown_as is_dual) t.of.now i) ((bare-total (shown_as is_dual) t.of.now ∙ sym h.1) i) t.asked (bare-picked (shown_as is_dual) t.of.now cs i) cs n)

-- `pair_fault` by what the code counts
abbrev pub plain_pair : ℕ → ℕ → ℕ → ℕ → ℕ → ℕ → ℕ → List (ℕ × ℕ) → ℕ → Option Fault
plain_pair m all k o rest l paired ps n =
    (if good_places m (map (λ p. p.0) ps) && good_places o (map (λ p. p.1) ps)
    then (if nat_lt (all + rest) (k + l + paired) then (if n == length ps then None else Some BranchCount) else Some CountTooSmall)
    else Some BadPair)

pub both_true : (a b : Bool) → (a && b) ≡ true → (a ≡ true) × (b ≡ true)
both_true true true h = (refl, refl)
both_true true false h = absurd (true≢false (sym h))
both_true false b h = absurd (true≢false (sym h))

pub pair_fault-is : {A : Type 0} (d e : Bool) (f g : Formula) (t u : Threshold A) (ps : List (ℕ × ℕ)) (n : ℕ) → IsThreshold d f t → IsThreshold e g u
    → pair_fault f g ps n ≡ plain_pair (length t.of.now) t.total t.asked (length u.of.now) u.total u.asked (paired_weight (bare t.of.now) (bare u.of.now) ps) ps n
pair_fault-is d e f g t u ps n h other =
    (λ i. pair_fault (h.0 i) (other.0 i) ps n)
    ∙ (λ i. plain_pair (length-weighed (shown_as d) t.of.now i) ((bare-total (shown_as d) t.of.now ∙ sym h.1) i) t.asked (length-weighed (shown_as e) u.of.now i) ((bare-total (shown_as e) u.of.now ∙ sym other.1) i) u.asked (bare-paired (shown_as d) (shown_as e) t.of.now u.of.now ps i) ps n)

-- ---- what no fault says

pub no_pick : (good few same : Bool) → (if good then (if few then (if same then None else Some BranchCount) else Some TooFewPicked) else Some BadPair) ≡ None → (good ≡ true) × (same ≡ true)
no_pick true true true h = (refl, refl)
no_pick true true false h = cc
no_pick true false same h = cc
no_pick false few same h = cc

pub no_pair : (good few same : Bool) → (if good then (if few then (if same then None else Some BranchCount) else Some CountTooSmall) else Some BadPair) ≡ None → (good ≡ true) × (same ≡ true)
no_pair true true true h = (refl, refl)
no_pair true true false h = cc
no_pair true false same h = cc
no_pair false few same h = cc

pub equal : (m n : ℕ) → (m == n) ≡ true → m ≡ n
equal m n h = grind (arith, nat_tests)

pub pick_none : (f : Formula) (cs : List ℕ) (n : ℕ) → pick_fault f cs n ≡ None → (good_places (length (children_of f)) cs ≡ true) × (n ≡ length cs)
pick_none (member x) cs n h = cc
pick_none (at_least k of) cs n h = grind (arith, common_steps)

pub pair_none : (f g : Formula) (ps : List (ℕ × ℕ)) (n : ℕ) → pair_fault f g ps n ≡ None → (good_places (length (children_of f)) (map (λ p. p.0) ps) ≡ true) × (good_places (length (children_of g)) (map (λ p. p.1) ps) ≡ true) × (n ≡ length ps)
pair_none (member x) g ps n h = cc
pair_none (at_least k of) (member y) ps n h = cc
pair_none (at_least k of) (at_least l others) ps n h = grind (arith, common_steps)

pub index_of-Some : {P : Type 0} (xs : List P) (i : ℕ) (x : P) → slice_get xs i ≡ Some x → i < length xs
index_of-Some [] i x h = cc
index_of-Some (y ∷ xs) zero x h = omega arith
index_of-Some (y ∷ xs) (suc i) x h = omega (arith, index_of-Some xs i x h)
