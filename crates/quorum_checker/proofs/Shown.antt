-- What items stand for, and lists of them.
use Rattle.std.proofs.Common.{◌≡◌, ℕ, zero, suc, ◌+◌, ◌-◌, ◌<◌, ◌≤◌, List, [], ◌∷◌, ◌++◌, length, take, map, get_or, arith, refl, ap, ◌∙◌, sym, append_assoc, Bool, true, false, Vec, Some, remove, insert, slice_get, if◌then◌else◌}
use Rattle.std.specs.Ordering.{nat_cmp}
use Rattle.std.specs.FinSet.{FinSet, insert as put}
use Rattle.std.proofs.lemmas.List.{map_more}
use Rattle.volume_model.specs.Common.{Formula, at_least, total_weight, dual_of}
use Rattle.volume_model.specs.Formula.{member}
use Rattle.quorum_expr.specs.declared.expression.Expr.{Expr}
use Rattle.quorum_expr.specs.declared.expression.Expr.TheVariants.{Member, KOf}
use Rattle.quorum_expr.specs.Common.{formula_of, weighed}
use Rattle.quorum_expr.proofs.ExprLaws.{formula_of-Member, formula_of-KOf}
use Rattle.quorum_expr.proofs.Rebuilt.{dual_of-KOf}
use Rattle.refutation.specs.declared.Side.{Side}
use Rattle.refutation.specs.declared.Side.TheVariants.{Left, Right}
use Rattle.quorum_checker.specs.Items.{shown_as, bare}
use Rattle.quorum_checker.proofs.Sums.{bare-total, formulas-weighed}
use Rattle.quorum_checker.specs.Refutes.{State, items_of, absent_of, with_items, with_absent, without, paired}
use Rattle.quorum_checker.specs.FirstFault.{children_of}
use Rattle.quorum_checker.proofs.Nodes.{index_of-Some}
use Rattle.std.proofs.lemmas.Grind.{common_steps}

-- what a threshold or its dual asks for, of what all children weigh
abbrev pub asked : Bool → ℕ → ℕ → ℕ
asked is_dual k all = (if is_dual then all + 1 - k else k)

pub shown_as-KOf : {A : Type 0} (is_dual : Bool) (e : Expr A) (k : ℕ) (of : Vec (ℕ × Expr A) A) → e ≡ KOf k of → shown_as is_dual e ≡ at_least (asked is_dual k (total_weight (bare of.items))) (weighed (shown_as is_dual) of.items)
shown_as-KOf true e k of is = ap (shown_as true) is ∙ dual_of-KOf k of ∙ ap (λ n. at_least (n + 1 - k) (weighed (λ c. dual_of (formula_of c)) of.items)) (bare-total formula_of of.items)
shown_as-KOf false e k of is = ap formula_of is ∙ formula_of-KOf k of

pub shown_as-Member : {A : Type 0} (is_dual : Bool) (e : Expr A) (m : ℕ) → e ≡ Member m → shown_as is_dual e ≡ member m
shown_as-Member {A} true e m is = ap (λ x. dual_of (formula_of x)) is ∙ ap dual_of (formula_of-Member A m)
shown_as-Member {A} false e m is = ap formula_of is ∙ formula_of-Member A m

pub shown_children : {A : Type 0} (is_dual : Bool) (e : Expr A) (k : ℕ) (of : Vec (ℕ × Expr A) A) → e ≡ KOf k of → children_of (shown_as is_dual e) ≡ map (λ (c : ℕ × Expr A). shown_as is_dual c.1) of.items
shown_children is_dual e k of is = ap children_of (shown_as-KOf is_dual e k of is) ∙ formulas-weighed (shown_as is_dual) of.items

pub threshold-is : {A : Type 0} (is_dual : Bool) (e : Expr A) (k n all : ℕ) (of : Vec (ℕ × Expr A) A) (xs : List (ℕ × Expr A)) → e ≡ KOf k of → xs ≡ of.items → all ≡ total_weight (bare xs) → n ≡ asked is_dual k all
    → (shown_as is_dual e ≡ at_least n (weighed (shown_as is_dual) xs)) × (all ≡ total_weight (bare xs))
threshold-is is_dual e k n all of xs is list sum asks =
    (shown_as-KOf is_dual e k of is ∙ (λ i. at_least (asked is_dual k ((ap (λ ys. total_weight (bare ys)) (sym list) ∙ sym sum) i)) (weighed (shown_as is_dual) (sym list i))) ∙ ap (λ m. at_least m (weighed (shown_as is_dual) xs)) (sym asks), sum)

-- ---- an item is taken out and put back

pub put_again : {P : Type 0} (xs : List P) (i : ℕ) (x : P) → slice_get xs i ≡ Some x → insert (remove xs i) i x ≡ xs
put_again [] i x h = cc
put_again (y ∷ xs) zero x h = let same : y ≡ x = cc in ap (λ z. z ∷ xs) (sym same)
put_again (y ∷ xs) (suc i) x h = ap (λ zs. y ∷ zs) (put_again xs i x h)

pub shorter : {P : Type 0} (xs : List P) (i : ℕ) → i < length xs → i ≤ length (remove xs i)
shorter [] i h = absurd (omega arith)
shorter (y ∷ xs) zero h = omega arith
shorter (y ∷ xs) (suc i) h = let rest : i ≤ length (remove xs i) = shorter xs i (omega arith) in omega (arith, rest)

pub map-remove : {P Q : Type 0} (f : P → Q) (xs : List P) (i : ℕ) → map f (remove xs i) ≡ remove (map f xs) i
map-remove f [] zero = refl
map-remove f [] (suc i) = refl
map-remove f (x ∷ xs) zero = refl
map-remove f (x ∷ xs) (suc i) = ap (λ ys. f x ∷ ys) (map-remove f xs i)

pub map-insert : {P Q : Type 0} (f : P → Q) (xs : List P) (i : ℕ) (y : P) → map f (insert xs i y) ≡ insert (map f xs) i (f y)
map-insert f [] zero y = refl
map-insert f [] (suc i) y = refl
map-insert f (x ∷ xs) zero y = refl
map-insert f (x ∷ xs) (suc i) y = ap (λ ys. f x ∷ ys) (map-insert f xs i y)

pub map-take : {P Q : Type 0} (f : P → Q) (n : ℕ) (xs : List P) → map f (take n xs) ≡ take n (map f xs)
map-take f zero xs = refl
map-take f (suc n) [] = refl
map-take f (suc n) (x ∷ xs) = ap (λ ys. f x ∷ ys) (map-take f n xs)

-- ---- states

-- the items of a side are replaced twice
pub with_again : (side : Side) (fs gs : List Formula) (st : State) → with_items side gs (with_items side fs st) ≡ with_items side gs st
with_again Left fs gs st = refl
with_again Right fs gs st = refl

pub items_with : (side : Side) (fs : List Formula) (st : State) → items_of side (with_items side fs st) ≡ fs
items_with Left fs st = refl
items_with Right fs st = refl

pub with_same : (side : Side) (st : State) → with_items side (items_of side st) st ≡ st
with_same Left st = refl
with_same Right st = refl

pub set_left : (side : Side) (fs gs : List Formula) (st : State) → side ≡ Left → fs ≡ gs → with_items Left fs st ≡ with_items side gs st
set_left side fs gs st is same = λ i. with_items (sym is i) (same i) st

pub set_right : (side : Side) (fs gs : List Formula) (st : State) → side ≡ Right → fs ≡ gs → with_items Right fs st ≡ with_items side gs st
set_right side fs gs st is same = λ i. with_items (sym is i) (same i) st

-- ---- items are taken out, others are pushed, dropped, and the first are put back

-- what is pushed beside what is left
pub pushed_on : (side : Side) (fs gs : List Formula) (st now after : State) → now ≡ with_items side fs st → after ≡ with_items side (items_of side now ++ gs) now → after ≡ with_items side (fs ++ gs) st
pushed_on side fs gs st now after out is = grind (arith, common_steps)

-- one more of what is seen through f
pub more_pushed : {X : Type 0} (side : Side) (f : X → Formula) (xs : List X) (i : ℕ) (x : X) (st now after : State) → i < length xs → x ≡ get_or xs i x → now ≡ with_items side (items_of side st ++ map f (take i xs)) st → after ≡ with_items side (items_of side now ++ f x ∷ []) now → after ≡ with_items side (items_of side st ++ map f (take (i + 1) xs)) st
more_pushed side f xs i x st now after h is so_far put_in =
    pushed_on side (items_of side st ++ map f (take i xs)) (f x ∷ []) st now after so_far put_in
    ∙ ap (λ fs. with_items side fs st) (append_assoc (items_of side st) (map f (take i xs)) (f x ∷ []) ∙ ap (λ ys. items_of side st ++ ys) (ap (λ y. map f (take i xs) ++ f y ∷ []) is ∙ sym (map_more f xs i x h)))

-- it is dropped again
pub dropped : (side : Side) (fs gs : List Formula) (n : ℕ) (st now after : State) → now ≡ with_items side (fs ++ gs) st → after ≡ with_items side (take n (items_of side now)) now → n ≡ length fs → after ≡ with_items side fs st
dropped side fs gs n st now after out is many = grind (arith, common_steps)

-- what was taken out is put back
pub restored : (side : Side) (at : ℕ) (f : Formula) (st now after : State) → slice_get (items_of side st) at ≡ Some f → now ≡ with_items side (remove (items_of side st) at) st → after ≡ with_items side (insert (items_of side now) at f) now → after ≡ st
restored side at f st now after found out is = grind (arith, common_steps, insert, with_again, remove, items_with, put_again, with_same)

-- there is room for it
pub room_for : (side : Side) (at : ℕ) (f : Formula) (st now : State) → slice_get (items_of side st) at ≡ Some f → now ≡ with_items side (remove (items_of side st) at) st → at ≤ length (items_of side now)
room_for side at f st now found out = grind (arith, common_steps, remove, shorter, index_of-Some, items_with)

-- ---- the same of an item on each side

-- a state without an item of each side
abbrev pub without_both : ℕ → ℕ → State → State
without_both i j st = with_items Right (remove (items_of Right st) j) (with_items Left (remove (items_of Left st) i) st)

pub both_dropped : (i j n m : ℕ) (f g : Formula) (st now one both : State) → now ≡ paired i j f g st → one ≡ with_items Left (take n (items_of Left now)) now → both ≡ with_items Right (take m (items_of Right one)) one → n ≡ length (remove (items_of Left st) i) → m ≡ length (remove (items_of Right st) j) → both ≡ without_both i j st
both_dropped i j n m f g st now one both out is also many others = grind (arith, common_steps)

pub both_restored : (i j : ℕ) (f g : Formula) (st now one both : State) → slice_get st.left i ≡ Some f → slice_get st.right j ≡ Some g → now ≡ without_both i j st → one ≡ with_items Left (insert (items_of Left now) i f) now → both ≡ with_items Right (insert (items_of Right one) j g) one → both ≡ st
both_restored i j f g st now one both found also_found out is also = grind (arith, common_steps, insert, put_again)

pub room_left : (i j : ℕ) (f : Formula) (st now : State) → slice_get st.left i ≡ Some f → now ≡ without_both i j st → i ≤ length (items_of Left now)
room_left i j f st now found out = grind (arith, common_steps, remove, shorter, index_of-Some)

pub room_right : (i j : ℕ) (f g : Formula) (st now one : State) → slice_get st.right j ≡ Some g → now ≡ without_both i j st → one ≡ with_items Left (insert (items_of Left now) i f) now → j ≤ length (items_of Right one)
room_right i j f g st now one found out is = grind (arith, common_steps, (remove st.right j), (shorter st.right j (index_of-Some st.right j g found)), (index_of-Some st.right j g found))

-- ---- members that are absent
