-- Expressions that are rebuilt child by child.
use Rattle.std.proofs.Common.{◌≡◌, ℕ, suc, ◌+◌, ◌-◌, ◌*◌, ◌<◌, ◌≤◌, List, [], ◌∷◌, ◌++◌, length, get_or, drop, map, arith, refl, ap, subst, ◌∙◌, sym, append_assoc, add-one, drop-cons, Vec, Result, Ok, Fits}
use mir.Syntax.{w16}
use Rattle.volume_model.specs.declared.fault.Fault.{Fault}
use Rattle.std.proofs.lemmas.List.{drop_all, append-nil, map-append}
use Rattle.quorum_expr.specs.declared.expression.Expr.{Expr}
use Rattle.quorum_expr.specs.declared.expression.Expr.TheVariants.{Member, KOf}
use Rattle.volume_model.specs.Common.{Formula, at_least, child, total_weight, dual_of, duals_of, HasCounts, EachHasCounts}
use Rattle.quorum_expr.specs.Expr.{formula_of, weighed}
use Rattle.quorum_expr.proofs.Weighed.{weighed-step, length-weighed}
use Rattle.quorum_expr.proofs.ExprLaws.{formula_of-Member, formula_of-KOf}

-- what a call gave is what its definition gives
pub given : (x y : Formula) → ◌≡◌ {A = Result Formula Fault} (Ok x) (Ok y) → y ≡ x
given x y h = cc

pub Ok-same : {x y : Formula} → x ≡ y → ◌≡◌ {A = Result Formula Fault} (Ok x) (Ok y)
Ok-same h = cc

-- one more is done, and one fewer is left
pub step : {P Q : Type 0} (f : P → Q) (xs : List P) (i : ℕ) (x : P) (done : List Q) (all : List Q) → i < length xs → x ≡ get_or xs i x → done ++ map f (drop i xs) ≡ all → (done ++ f x ∷ []) ++ map f (drop (i + 1) xs) ≡ all
step f xs i x done all h is so_far =
    let split : drop i xs ≡ x ∷ drop (suc i) xs = drop-cons xs i x h ∙ ap (λ y. y ∷ drop (suc i) xs) (sym is) in
    append_assoc done (f x ∷ []) (map f (drop (i + 1) xs)) ∙ ap (λ n. done ++ f x ∷ map f (drop n xs)) (add-one i)
    ∙ ap (λ ys. done ++ map f ys) (sym split) ∙ so_far

-- the same, where what is done is seen through g
pub pushed : {P R Q : Type 0} (g : R → Q) (f : P → Q) (xs : List P) (i : ℕ) (x : P) (before after : List R) (y : R) (all : List Q) → after ≡ before ++ y ∷ [] → g y ≡ f x → i < length xs → x ≡ get_or xs i x → map g before ++ map f (drop i xs) ≡ all → map g after ++ map f (drop (i + 1) xs) ≡ all
pushed g f xs i x before after y all more same h is so_far =
    ap (λ ys. map g ys ++ map f (drop (i + 1) xs)) more ∙ ap (λ ys. ys ++ map f (drop (i + 1) xs)) (map-append g before (y ∷ []))
    ∙ ap (λ z. (map g before ++ z ∷ []) ++ map f (drop (i + 1) xs)) same ∙ step f xs i x (map g before) all h is so_far

-- nothing is left
pub finish : {P Q : Type 0} (f : P → Q) (xs : List P) (i : ℕ) (done all : List Q) → length xs ≤ i → done ++ map f (drop i xs) ≡ all → done ≡ all
finish f xs i done all h so_far = sym (append-nil done) ∙ ap (λ ys. done ++ map f ys) (sym (drop_all i xs h)) ∙ so_far

-- the thresholds of the child at hand and of those after it
pub counts_step : {A : Type 0} (xs : List (ℕ × Expr A)) (i : ℕ) (x : ℕ × Expr A) → i < length xs → x ≡ get_or xs i x → EachHasCounts (weighed formula_of (drop i xs)) → HasCounts (formula_of x.1) × EachHasCounts (weighed formula_of (drop (i + 1) xs))
counts_step xs i x h is counts = subst EachHasCounts (weighed-step formula_of xs i x h is) counts

-- the threshold of an expression
pub counts-KOf : {A : Type 0} (e : Expr A) (k : ℕ) (of : Vec (ℕ × Expr A) A) (xs : List (ℕ × Expr A)) → e ≡ KOf k of → xs ≡ of.items → HasCounts (formula_of e) → (0 < k) × (k ≤ total_weight (weighed formula_of xs)) × (length xs ≤ 64)
counts-KOf e k of xs is list h =
    let here : HasCounts (at_least k (weighed formula_of xs)) = subst HasCounts (ap formula_of is ∙ formula_of-KOf k of ∙ ap (λ ys. at_least k (weighed formula_of ys)) (sym list)) h in
    (here.0, here.1, subst (λ n. n ≤ 64) (length-weighed formula_of xs) here.2)

-- the thresholds of its children
pub counts-children : {A : Type 0} (e : Expr A) (k : ℕ) (of : Vec (ℕ × Expr A) A) (xs : List (ℕ × Expr A)) → e ≡ KOf k of → xs ≡ of.items → HasCounts (formula_of e) → EachHasCounts (weighed formula_of xs)
counts-children e k of xs is list h =
    let here : HasCounts (at_least k (weighed formula_of of.items)) = subst HasCounts (ap formula_of is ∙ formula_of-KOf k of) h in
    subst (λ ys. EachHasCounts (weighed formula_of ys)) (sym list) here.3

-- so many weights are a small number
pub small_total : (all i n : ℕ) → all ≤ 255 * i → i ≤ n → n ≤ 64 → all ≤ 16320
small_total all i n h e f = omega arith

pub within_all : (n k all whole : ℕ) → n ≡ k → k ≤ whole → all ≡ whole → n ≤ all + 1
within_all n k all whole h e f = omega arith

pub rest_fits : (n k all : ℕ) → n ≡ k → 0 < k → all ≤ 16320 → Fits w16 (all + 1 - n)
rest_fits n k all h e f = omega arith

-- a member is its own dual
pub dual_of-Member : {A : Type 0} (B : Type 0) (e : Expr A) (m : ℕ) → e ≡ Member m → dual_of (formula_of e) ≡ formula_of {A = B} (Member m)
dual_of-Member {A} B e m is = ap (λ x. dual_of (formula_of x)) is ∙ ap dual_of (formula_of-Member A m) ∙ sym (formula_of-Member B m)

-- a member is the same in any memory
pub copy_of-Member : {A : Type 0} (B : Type 0) (e : Expr A) (m : ℕ) → e ≡ Member m → formula_of e ≡ formula_of {A = B} (Member m)
copy_of-Member {A} B e m is = ap formula_of is ∙ formula_of-Member A m ∙ sym (formula_of-Member B m)

-- the duals of children, with their weights
duals-weighed : {A : Type 0} (xs : List (ℕ × Expr A)) → duals_of (weighed formula_of xs) ≡ weighed (λ e. dual_of (formula_of e)) xs
duals-weighed [] = refl
duals-weighed (x ∷ xs) = ap (child x.0 (dual_of (formula_of x.1))) (duals-weighed xs)

-- the dual, child by child
pub dual_of-KOf : {A : Type 0} (k : ℕ) (of : Vec (ℕ × Expr A) A) → dual_of (formula_of (KOf k of)) ≡ at_least (total_weight (weighed formula_of of.items) + 1 - k) (weighed (λ e. dual_of (formula_of e)) of.items)
dual_of-KOf k of =
    ap dual_of (formula_of-KOf k of) ∙ ap (at_least (total_weight (weighed formula_of of.items) + 1 - k)) (duals-weighed of.items)
