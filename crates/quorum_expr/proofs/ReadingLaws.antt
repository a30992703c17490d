-- What is read is valid.
use Rattle.std.proofs.Common.{◌≡◌, ℕ, zero, suc, ◌+◌, ◌≤◌, arith, refl, ap, ◌∙◌, sym, Bool, true, false, nat_lt, nat_le, if◌then◌else◌, List, [], ◌∷◌, ◌++◌, length, map, Some, None, Result, Ok, Err}
use Rattle.std.specs.FinSet.{FinSet, contains}
use Rattle.std.specs.Ordering.{nat_cmp}
use Rattle.std.proofs.lemmas.Bool.Decides.{nat_tests}
use Rattle.std.proofs.lemmas.List.{length-map}
use Rattle.serde_json.specs.Data.{Data, Items, no_items, item}
use Rattle.serde_json.specs.Events.{items_len}
use Rattle.volume_model.specs.declared.fault.Fault.{Fault}
use Rattle.volume_model.specs.declared.fault.Fault.TheVariants.{BadCount, TooDeep}
use Rattle.volume_model.specs.Common.{◌>>=◌, Formula, at_least, each_once, each_below, listed}
use Rattle.volume_model.specs.Formula.{member}
use Rattle.quorum_expr.specs.declared.form.Lists.{Lists}
use Rattle.quorum_expr.specs.Valid.{or_then, shape_fault, row_fault, nodes, expression_fault}
use Rattle.quorum_expr.proofs.ValidLaws.{neither}
use Rattle.quorum_expr.proofs.Rows.{row-read}
use Rattle.quorum_expr.specs.Reading.{ChildList, each, named, Weights, weighing, good_row, Form, single, choice, set_of, form_of, child_count, each_of, members_at, children_at, formula_from, formula_at}
use Rattle.std.proofs.lemmas.Grind.{common_steps}

-- ---- the parts of a reading without a fault

bind_ok : {A B : Type 0} (r : Result A Fault) (f : A → Result B Fault) (y : B) → (r >>= f) ≡ Ok y → (x : A) × (r ≡ Ok x) × (f x ≡ Ok y)
bind_ok (Ok x) f y h = (x, refl, h)
bind_ok (Err e) f y h = absurd (cc)

if_ok : {A : Type 0} (b : Bool) (r : Result A Fault) (e : Fault) (y : A) → (if b then r else Err e) ≡ Ok y → (b ≡ true) × (r ≡ Ok y)
if_ok true r e y h = (refl, h)
if_ok false r e y h = absurd (cc)

-- ---- one level

member_within : (n left : ℕ) → nat_lt n 64 ≡ true → shape_fault (member n) (suc left) ≡ None
member_within n left h = grind (arith, common_steps)

row_weighing : (ws : Weights) (i : ℕ) (fs : List Formula) (left : ℕ) → row_fault (weighing ws i fs) left ≡ row_fault (each_once fs) left
row_weighing ws i [] left = refl
row_weighing ws i (f ∷ fs) left = ap (λ rest. or_then (shape_fault f left) rest) (row_weighing ws (i + 1) fs left)

choice_within : (k left : ℕ) (ws : Weights) (fs : List Formula) → good_row k (length fs) ws ≡ true → row_fault (each_once fs) left ≡ None → shape_fault (at_least k (weighing ws 0 fs)) (suc left) ≡ None
choice_within k left ws fs count row = grind (arith, common_steps, (Some TooDeep), (Some BadCount), (row-read k ws fs), (row_weighing ws 0 fs left))

-- ---- lists of members

abbrev AreBelow : List ℕ → Type 0
AreBelow [] = Unit {0}
AreBelow (x ∷ xs) = (nat_lt x 64 ≡ true) × AreBelow xs

below_append : (xs ys : List ℕ) → AreBelow xs → AreBelow ys → AreBelow (xs ++ ys)
below_append [] ys h i = i
below_append (x ∷ xs) ys h i = (h.0, below_append xs ys h.1 i)

listed_below : (n : ℕ) (test : ℕ → Bool) → n ≤ 64 → AreBelow (each_below n test (λ x. x))
listed_below zero test h = tt
listed_below (suc n) test h = grind (arith, common_steps, below_append, Bool, AreBelow, nat_tests, (listed_below n test (omega arith)))

members_row : (ms : List ℕ) (left : ℕ) → AreBelow ms → row_fault (each_once (map member ms)) (suc left) ≡ None
members_row [] left h = refl
members_row (m ∷ ms) left h = neither _ _ (member_within m left h.0) (members_row ms left h.1)

same_ok : {A : Type 0} (x y : A) → ◌≡◌ {A = Result A Fault} (Ok x) (Ok y) → x ≡ y
same_ok x y h = cc

members_within : (left : ℕ) (s : FinSet nat_cmp) (fs : List Formula) → members_at left (listed s) ≡ Ok fs → (length fs ≡ length (listed s)) × (row_fault (each_once fs) left ≡ None)
members_within zero s fs h = absurd (cc)
members_within (suc left) s fs h = grind (arith, common_steps, (same_ok _ _ h), (length-map (listed s) member), (members_row (listed s) left (listed_below 64 (contains s) (omega arith))), (listed_below 64 (contains s) (omega arith)))

-- ---- all levels

each_within : (left : ℕ) (read : Data → Result Formula Fault) → ((d : Data) (f : Formula) → read d ≡ Ok f → shape_fault f left ≡ None) → (ds : Items) (fs : List Formula) → each_of read ds ≡ Ok fs → (length fs ≡ items_len ds) × (row_fault (each_once fs) left ≡ None)
each_within left read good no_items fs h = grind (arith, common_steps)
each_within left read good (item d ds) fs h =
    let first = bind_ok (read d) (λ f. each_of read ds >>= λ gs. Ok (f ∷ gs)) fs h in
    let rest = bind_ok (each_of read ds) (λ gs. Ok (first.0 ∷ gs)) fs first.2 in
    let is : (first.0 ∷ rest.0) ≡ fs = same_ok _ _ rest.2 in
    let below = each_within left read good ds rest.0 rest.1 in (
      ap length (sym is) ∙ ap suc below.0,
      ap (λ gs. row_fault (each_once gs) left) (sym is) ∙ neither _ _ (good d first.0 first.1) below.1,
    )

children_within : (lists : Lists) (left : ℕ) (read : Data → Result Formula Fault) → ((d : Data) (f : Formula) → read d ≡ Ok f → shape_fault f left ≡ None) → (list : ChildList) (fs : List Formula) → children_at lists left read list ≡ Ok fs → (length fs ≡ child_count lists list) × (row_fault (each_once fs) left ≡ None)
children_within lists left read good (each ds) fs h = each_within left read good ds fs h
children_within lists left read good (named name) fs h = members_within left (set_of lists name) fs h

form_within : (lists : Lists) (left : ℕ) (read : Data → Result Formula Fault) → ((d : Data) (f : Formula) → read d ≡ Ok f → shape_fault f left ≡ None) → (form : Form) (f : Formula) → formula_from lists left read form ≡ Ok f → shape_fault f (suc left) ≡ None
form_within lists left read good (single n) f h = grind (arith, common_steps)
form_within lists left read good (choice k list ws) f h = grind (arith, common_steps, if_ok, Ok, bind_ok, children_within, same_ok, choice_within)

pub formula_within : (lists : Lists) (left : ℕ) (d : Data) (f : Formula) → formula_at lists left d ≡ Ok f → shape_fault f left ≡ None
unfolding formula_at
formula_within lists zero d f h = let form = bind_ok (form_of lists d) (λ form. Err TooDeep) f h in absurd (let no : ◌≡◌ {A = Result Formula Fault} (Err TooDeep) (Ok f) = form.2 in cc)
formula_within lists (suc left) d f h =
    let form = bind_ok (form_of lists d) (formula_from lists left (formula_at lists left)) f h in
    form_within lists left (formula_at lists left) (formula_within lists left) form.0 f form.2

-- what is read of few nodes is valid
pub valid_read : (lists : Lists) (d : Data) (f : Formula) → formula_at lists 6 d ≡ Ok f → nat_le (nodes f) 4096 ≡ true → expression_fault f ≡ None
valid_read lists d f h few = grind (arith, common_steps, neither, None, Some, formula_within, Bool)
