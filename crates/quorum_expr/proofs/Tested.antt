-- The test of an expression, child by child.
use Rattle.std.proofs.Common.{◌≡◌, ℕ, ◌+◌, ◌-◌, ◌<◌, ◌≤◌, List, length, get_or, drop, arith, ap, ◌∙◌, sym, ◌==◌, ◌≢◌, true, false, nat_lt, if◌then◌else◌, Option, Some, None, Vec}
use Rattle.std.proofs.lemmas.Bool.Decides.{nat_tests}
use Rattle.quorum_expr.specs.declared.expression.Expr.{Expr}
use Rattle.quorum_expr.specs.declared.expression.Expr.TheVariants.{Member, KOf}
use Rattle.volume_model.specs.declared.fault.Fault.{Fault}
use Rattle.volume_model.specs.declared.fault.Fault.TheVariants.{BadCount, TooDeep, NotAMember}
use Rattle.volume_model.specs.Common.{Formula, at_least}
use Rattle.volume_model.specs.Formula.{member}
use Rattle.quorum_expr.specs.Expr.{formula_of, weighed}
use Rattle.quorum_expr.specs.Valid.{or_then, good_choice, shape_fault, row_fault, nodes, row_nodes}
use Rattle.quorum_expr.proofs.ExprLaws.{formula_of-Member, formula_of-KOf}
use Rattle.quorum_expr.proofs.Weighed.{weighed-step, weighed-done}

pub shape-is : {A : Type 0} (e : Expr A) (k : ℕ) (of : Vec (ℕ × Expr A) A) (xs : List (ℕ × Expr A)) (levels : ℕ) → e ≡ KOf k of → xs ≡ of.items
    → shape_fault (formula_of e) levels ≡ (if levels == 0 then Some TooDeep else (if good_choice k (weighed formula_of xs) then row_fault (weighed formula_of xs) (levels - 1) else Some BadCount))
shape-is e k of xs levels is list =
    ap (λ f. shape_fault f levels) (ap formula_of is ∙ formula_of-KOf k of ∙ ap (λ ys. at_least k (weighed formula_of ys)) (sym list))

pub row_step : {A : Type 0} (xs : List (ℕ × Expr A)) (i levels : ℕ) (x : ℕ × Expr A) → i < length xs → x ≡ get_or xs i x → row_fault (weighed formula_of (drop i xs)) levels ≡ or_then (shape_fault (formula_of x.1) levels) (row_fault (weighed formula_of (drop (i + 1) xs)) levels)
row_step xs i levels x h is = ap (λ of. row_fault of levels) (weighed-step formula_of xs i x h is)

pub row_done : {A : Type 0} (xs : List (ℕ × Expr A)) (i levels : ℕ) → length xs ≤ i → row_fault (weighed formula_of (drop i xs)) levels ≡ None
row_done xs i levels h = ap (λ of. row_fault of levels) (weighed-done formula_of xs i h)

-- the nodes of the child at hand and of those after it
pub nodes_step : {A : Type 0} (xs : List (ℕ × Expr A)) (i : ℕ) (x : ℕ × Expr A) → i < length xs → x ≡ get_or xs i x → row_nodes (weighed formula_of (drop i xs)) ≡ nodes (formula_of x.1) + row_nodes (weighed formula_of (drop (i + 1) xs))
nodes_step xs i x h is = ap row_nodes (weighed-step formula_of xs i x h is)

pub nodes_done : {A : Type 0} (xs : List (ℕ × Expr A)) (i : ℕ) → length xs ≤ i → row_nodes (weighed formula_of (drop i xs)) ≡ 0
nodes_done xs i h = ap row_nodes (weighed-done formula_of xs i h)

pub nodes-is : {A : Type 0} (e : Expr A) (k : ℕ) (of : Vec (ℕ × Expr A) A) → e ≡ KOf k of → nodes (formula_of e) ≡ 1 + row_nodes (weighed formula_of of.items)
nodes-is e k of is = ap nodes (ap formula_of is ∙ formula_of-KOf k of)

-- ---- the fault of one level

some_level : (levels : ℕ) → levels ≢ 0 → (levels == 0) ≡ false
some_level levels h = grind (arith, nat_tests)

pub no_level : (f : Formula) (levels : ℕ) → levels ≡ 0 → Some TooDeep ≡ shape_fault f levels
no_level (member x) levels h = ap (λ n. if n == 0 then Some TooDeep else (if nat_lt x 64 then None else Some NotAMember)) (sym h)
no_level (at_least k of) levels h = ap (λ n. if n == 0 then Some TooDeep else (if good_choice k of then row_fault of (n - 1) else Some BadCount)) (sym h)

member-is : {A : Type 0} (e : Expr A) (m levels : ℕ) → levels ≢ 0 → e ≡ Member m → shape_fault (formula_of e) levels ≡ (if nat_lt m 64 then None else Some NotAMember)
member-is {A} e m levels h is =
    ap (λ f. shape_fault f levels) (ap formula_of is ∙ formula_of-Member A m) ∙ ap (λ b. if b then Some TooDeep else (if nat_lt m 64 then None else Some NotAMember)) (some_level levels h)

below : (m : ℕ) → m < 64 → nat_lt m 64 ≡ true
below m h = grind (arith, nat_tests)

not_below : (m : ℕ) → 64 ≤ m → nat_lt m 64 ≡ false
not_below m h = grind (arith, nat_tests)

pub good_member : {A : Type 0} (e : Expr A) (m levels : ℕ) → levels ≢ 0 → e ≡ Member m → m < 64 → None ≡ shape_fault (formula_of e) levels
good_member e m levels h is low = sym (member-is e m levels h is ∙ ap (λ b. if b then None else Some NotAMember) (below m low))

pub bad_member : {A : Type 0} (e : Expr A) (m levels : ℕ) → levels ≢ 0 → e ≡ Member m → 64 ≤ m → Some NotAMember ≡ shape_fault (formula_of e) levels
bad_member e m levels h is high = sym (member-is e m levels h is ∙ ap (λ b. if b then None else Some NotAMember) (not_below m high))

-- ---- the count of one level

pub counted_member : {A : Type 0} (e : Expr A) (m left room : ℕ) → e ≡ Member m → left ≡ room - 1 → left ≡ room - nodes (formula_of e)
counted_member {A} e m left room is h = h ∙ ap (λ n. room - n) (sym (ap nodes (ap formula_of is ∙ formula_of-Member A m)))

counted_here : (left room here rest before whole : ℕ) → before ≡ here + rest → left ≡ room - here → room - before ≡ whole → left - rest ≡ whole
counted_here left room here rest before whole e h so_far = omega arith

pub counted_step : {A : Type 0} (xs : List (ℕ × Expr A)) (i : ℕ) (x : ℕ × Expr A) (left room whole : ℕ) → i < length xs → x ≡ get_or xs i x → left ≡ room - nodes (formula_of x.1) → room - row_nodes (weighed formula_of (drop i xs)) ≡ whole
    → left - row_nodes (weighed formula_of (drop (i + 1) xs)) ≡ whole
counted_step xs i x left room whole h is here so_far =
    counted_here left room (nodes (formula_of x.1)) (row_nodes (weighed formula_of (drop (i + 1) xs))) (row_nodes (weighed formula_of (drop i xs))) whole (nodes_step xs i x h is) here so_far

all_counted : (left rest start all room whole : ℕ) → rest ≡ 0 → left - rest ≡ start - all → start ≡ room - 1 → whole ≡ 1 + all → left ≡ room - whole
all_counted left rest start all room whole e so_far h i = omega arith

pub counted_all : {A : Type 0} (e : Expr A) (k : ℕ) (of : Vec (ℕ × Expr A) A) (xs : List (ℕ × Expr A)) (i left start room : ℕ) → e ≡ KOf k of → xs ≡ of.items → length xs ≤ i → start ≡ room - 1
    → left - row_nodes (weighed formula_of (drop i xs)) ≡ start - row_nodes (weighed formula_of xs) → left ≡ room - nodes (formula_of e)
counted_all e k of xs i left start room is list past first so_far =
    all_counted left (row_nodes (weighed formula_of (drop i xs))) start (row_nodes (weighed formula_of xs)) room (nodes (formula_of e)) (nodes_done xs i past) so_far first
    (nodes-is e k of is ∙ ap (λ ys. 1 + row_nodes (weighed formula_of ys)) (sym list))

pub row_skipped : {A : Type 0} (xs : List (ℕ × Expr A)) (i levels : ℕ) (x : ℕ × Expr A) (whole : Option Fault) → i < length xs → x ≡ get_or xs i x → None ≡ shape_fault (formula_of x.1) levels → row_fault (weighed formula_of (drop i xs)) levels ≡ whole
    → row_fault (weighed formula_of (drop (i + 1) xs)) levels ≡ whole
row_skipped xs i levels x whole h is none so_far =
    ap (λ o. or_then o (row_fault (weighed formula_of (drop (i + 1) xs)) levels)) none ∙ sym (row_step xs i levels x h is) ∙ so_far

-- one level fewer is fewer than all
pub one_fewer : (levels t : ℕ) → levels ≢ 0 → levels ≡ t → levels - 1 < t
one_fewer levels t h e = omega arith

pub some_positive : (levels : ℕ) → levels ≢ 0 → 1 ≤ levels
some_positive levels h = omega arith

-- ---- the fault of a threshold

-- no good threshold
pub no_choice : {A : Type 0} (e : Expr A) (k : ℕ) (of : Vec (ℕ × Expr A) A) (xs : List (ℕ × Expr A)) (levels : ℕ) → levels ≢ 0 → e ≡ KOf k of → xs ≡ of.items → good_choice k (weighed formula_of xs) ≡ false → Some BadCount ≡ shape_fault (formula_of e) levels
no_choice e k of xs levels h is list bad =
    sym (shape-is e k of xs levels is list ∙ (λ i. if some_level levels h i then Some TooDeep else (if bad i then row_fault (weighed formula_of xs) (levels - 1) else Some BadCount)))

-- a good one, and what its children have
pub row-is : {A : Type 0} (e : Expr A) (k : ℕ) (of : Vec (ℕ × Expr A) A) (xs : List (ℕ × Expr A)) (levels : ℕ) (o : Option Fault) → levels ≢ 0 → e ≡ KOf k of → xs ≡ of.items → good_choice k (weighed formula_of xs) ≡ true → row_fault (weighed formula_of xs) (levels - 1) ≡ o → o ≡ shape_fault (formula_of e) levels
row-is e k of xs levels o h is list good row =
    sym (shape-is e k of xs levels is list ∙ (λ i. if some_level levels h i then Some TooDeep else (if good i then row i else Some BadCount)))
