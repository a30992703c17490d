-- The weights of the children that hold, added up one after the other.
use Rattle.std.proofs.Common.{◌≡◌, ℕ, ◌+◌, ◌-◌, ◌*◌, ◌==◌, ◌<◌, ◌≤◌, List, length, get_or, drop, arith, ap, ◌∙◌, sym, true, false, nat_le, nat_lt, if◌then◌else◌, Vec}
use Rattle.volume_model.specs.Common.{Formula, Members, sat, weight_held, total_weight, dual_of}
use Rattle.quorum_expr.specs.declared.expression.Expr.{Expr}
use Rattle.quorum_expr.specs.declared.expression.Expr.TheVariants.{Member, KOf}
use Rattle.quorum_expr.specs.Expr.{formula_of, weighed}
use Rattle.quorum_expr.proofs.ExprLaws.{formula_of-Member, formula_of-KOf}
use Rattle.quorum_expr.proofs.Weighed.{weighed-step, weighed-done}
use Rattle.quorum_expr.proofs.Rebuilt.{dual_of-KOf}
use Rattle.std.proofs.lemmas.Bool.Decides.{nat_tests}

-- what holds of a list of expressions, seen through f
abbrev pub held_by : {A : Type 0} → (Expr A → Formula) → List (ℕ × Expr A) → Members → ℕ
held_by f es s = weight_held (weighed f es) s

abbrev pub held_of : {A : Type 0} → List (ℕ × Expr A) → Members → ℕ
held_of es s = held_by formula_of es s

abbrev pub dual_held_of : {A : Type 0} → List (ℕ × Expr A) → Members → ℕ
dual_held_of es s = held_by (λ e. dual_of (formula_of e)) es s

split : {A : Type 0} (f : Expr A → Formula) (xs : List (ℕ × Expr A)) (i : ℕ) (x : ℕ × Expr A) (s : Members) → i < length xs → x ≡ get_or xs i x → held_by f (drop i xs) s ≡ (if sat (f x.1) s then x.0 else 0) + held_by f (drop (i + 1) xs) s
split f xs i x s h is = ap (λ of. weight_held of s) (weighed-step f xs i x h is)

pub none_yet : (n : ℕ) → 0 + n ≡ n
none_yet n = omega arith

one_more : (now held w rest before whole : ℕ) → now ≡ held + w → before ≡ w + rest → held + before ≡ whole → now + rest ≡ whole
one_more now held w rest before whole h e i = omega arith

no_more : (now held rest before whole : ℕ) → now ≡ held → before ≡ 0 + rest → held + before ≡ whole → now + rest ≡ whole
no_more now held rest before whole h e i = omega arith

-- one that holds
pub held_more : {A : Type 0} (f : Expr A → Formula) (xs : List (ℕ × Expr A)) (i : ℕ) (x : ℕ × Expr A) (s : Members) (now held whole : ℕ) → i < length xs → x ≡ get_or xs i x → sat (f x.1) s ≡ true → now ≡ held + x.0 → held + held_by f (drop i xs) s ≡ whole → now + held_by f (drop (i + 1) xs) s ≡ whole
held_more f xs i x s now held whole h is holds more so_far =
    one_more now held x.0 (held_by f (drop (i + 1) xs) s) (held_by f (drop i xs) s) whole more (split f xs i x s h is ∙ ap (λ b. (if b then x.0 else 0) + held_by f (drop (i + 1) xs) s) holds) so_far

-- one that doesn't
pub held_same : {A : Type 0} (f : Expr A → Formula) (xs : List (ℕ × Expr A)) (i : ℕ) (x : ℕ × Expr A) (s : Members) (now held whole : ℕ) → i < length xs → x ≡ get_or xs i x → sat (f x.1) s ≡ false → now ≡ held → held + held_by f (drop i xs) s ≡ whole → now + held_by f (drop (i + 1) xs) s ≡ whole
held_same f xs i x s now held whole h is fails same so_far =
    no_more now held (held_by f (drop (i + 1) xs) s) (held_by f (drop i xs) s) whole same (split f xs i x s h is ∙ ap (λ b. (if b then x.0 else 0) + held_by f (drop (i + 1) xs) s) fails) so_far

pub few_more : (now held w i : ℕ) → w ≤ 255 → now ≡ held + w → held ≤ 255 * i → now ≤ 255 * (i + 1)
few_more now held w i small h e = omega arith

pub few_same : (now held i : ℕ) → now ≡ held → held ≤ 255 * i → now ≤ 255 * (i + 1)
few_same now held i h e = omega arith

nothing_left : (held rest whole : ℕ) → rest ≡ 0 → held + rest ≡ whole → held ≡ whole
nothing_left held rest whole h e = omega arith

pub sat-Member : {A : Type 0} (e : Expr A) (m : ℕ) (s : Members) → e ≡ Member m → sat (formula_of e) s ≡ s m
sat-Member {A} e m s is = ap (λ f. sat f s) (ap formula_of is ∙ formula_of-Member A m)

-- ---- what is missing of a threshold

one_less : (now missing w rest before whole : ℕ) → now ≡ missing - w → before ≡ w + rest → missing - before ≡ whole → now - rest ≡ whole
one_less now missing w rest before whole h e i = omega arith

no_less : (now missing rest before whole : ℕ) → now ≡ missing → before ≡ 0 + rest → missing - before ≡ whole → now - rest ≡ whole
no_less now missing rest before whole h e i = omega arith

-- one that holds
pub missing_less : {A : Type 0} (xs : List (ℕ × Expr A)) (i : ℕ) (x : ℕ × Expr A) (s : Members) (now missing w whole : ℕ) → i < length xs → x ≡ get_or xs i x → sat (formula_of x.1) s ≡ true → now ≡ missing - w → w ≡ x.0 → missing - held_of (drop i xs) s ≡ whole → now - held_of (drop (i + 1) xs) s ≡ whole
missing_less xs i x s now missing w whole h is holds less same so_far =
    one_less now missing w (held_of (drop (i + 1) xs) s) (held_of (drop i xs) s) whole less (split formula_of xs i x s h is ∙ ap (λ b. (if b then x.0 else 0) + held_of (drop (i + 1) xs) s) holds ∙ ap (λ n. n + held_of (drop (i + 1) xs) s) (sym same)) so_far

-- one that doesn't
pub missing_same : {A : Type 0} (xs : List (ℕ × Expr A)) (i : ℕ) (x : ℕ × Expr A) (s : Members) (now missing whole : ℕ) → i < length xs → x ≡ get_or xs i x → sat (formula_of x.1) s ≡ false → now ≡ missing → missing - held_of (drop i xs) s ≡ whole → now - held_of (drop (i + 1) xs) s ≡ whole
missing_same xs i x s now missing whole h is fails same so_far =
    no_less now missing (held_of (drop (i + 1) xs) s) (held_of (drop i xs) s) whole same (split formula_of xs i x s h is ∙ ap (λ b. (if b then x.0 else 0) + held_of (drop (i + 1) xs) s) fails) so_far

nothing_less : (missing rest whole : ℕ) → rest ≡ 0 → missing - rest ≡ whole → missing ≡ whole
nothing_less missing rest whole h e = omega arith

met : (k held missing : ℕ) → missing ≡ k - held → (missing == 0) ≡ nat_le k held
met k held missing is = grind (arith, nat_tests)

-- whether nothing is missing says whether the threshold is met
pub sat-KOf : {A : Type 0} (e : Expr A) (k : ℕ) (of : Vec (ℕ × Expr A) A) (s : Members) (xs : List (ℕ × Expr A)) (i missing : ℕ) → e ≡ KOf k of → xs ≡ of.items → length xs ≤ i → missing - held_of (drop i xs) s ≡ k - held_of xs s → (missing == 0) ≡ sat (formula_of e) s
sat-KOf e k of s xs i missing is list past so_far =
    let all : missing ≡ k - held_of of.items s = nothing_less missing (held_of (drop i xs) s) (k - held_of xs s) (ap (λ of. weight_held of s) (weighed-done formula_of xs i past)) so_far ∙ ap (λ ys. k - held_of ys s) list in
    met k (held_of of.items s) missing all ∙ sym (ap (λ f. sat f s) (ap formula_of is ∙ formula_of-KOf k of))

-- ---- the same of the dual

pub dual_sat-Member : {A : Type 0} (e : Expr A) (m : ℕ) (s : Members) → e ≡ Member m → sat (dual_of (formula_of e)) s ≡ s m
dual_sat-Member {A} e m s is = ap (λ f. sat (dual_of f) s) (ap formula_of is ∙ formula_of-Member A m)

above : (k held all : ℕ) → nat_lt all (held + k) ≡ nat_le (all + 1 - k) held
above k held all = grind (arith, nat_tests)

pub dual_sat-KOf : {A : Type 0} (e : Expr A) (k : ℕ) (of : Vec (ℕ × Expr A) A) (s : Members) (xs : List (ℕ × Expr A)) (i held all n : ℕ) → e ≡ KOf k of → xs ≡ of.items → length xs ≤ i → held + dual_held_of (drop i xs) s ≡ dual_held_of xs s
    → all + total_weight (weighed formula_of (drop i xs)) ≡ total_weight (weighed formula_of xs) → n ≡ k → nat_lt all (held + n) ≡ sat (dual_of (formula_of e)) s
dual_sat-KOf e k of s xs i held all n is list past so_far weight same =
    let counted : held ≡ dual_held_of of.items s = nothing_left held (dual_held_of (drop i xs) s) (dual_held_of xs s) (ap (λ of. weight_held of s) (weighed-done (λ e. dual_of (formula_of e)) xs i past)) so_far ∙ ap (λ ys. dual_held_of ys s) list in
    let whole : all ≡ total_weight (weighed formula_of of.items) = nothing_left all (total_weight (weighed formula_of (drop i xs))) (total_weight (weighed formula_of xs)) (ap total_weight (weighed-done formula_of xs i past)) weight ∙ ap (λ ys. total_weight (weighed formula_of ys)) list in
    above n held all ∙ (λ j. nat_le (whole j + 1 - same j) (counted j)) ∙ sym (ap (λ x. sat (dual_of (formula_of x)) s) is ∙ ap (λ f. sat f s) (dual_of-KOf k of))
