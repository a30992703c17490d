-- The members of a set one after the other.
use Rattle.std.proofs.Common.{◌≡◌, ℕ, zero, suc, ◌+◌, ◌*◌, ◌<◌, ◌≤◌, arith, refl, ap, ◌∙◌, sym, add-one, append_assoc, length-append, count_ones, length, map, Bool, true, false, not, nat_eq, nat_lt, ◌^◌, ◌&&◌, if◌then◌else◌, ◌-◌, List, [], ◌∷◌, ◌++◌, slice_get, Some, None, IsTrue, ◌↔◌, true≢false}
use Rattle.std.specs.Ordering.{nat_cmp}
use Rattle.std.specs.Cmp.{nat_cmp_total, unsigned_tied}
use Rattle.std.specs.FinSet.{FinSet, empty, contains, difference, is_subset, remove, contains-remove, contains-empty, contains-difference, contains-is_subset, is_subset-contains}
use Rattle.volume_model.specs.Common.{each_once, each_below, listed}
use Rattle.volume_model.specs.Formula.{member}
use Rattle.quorum_expr.specs.declared.expression.Expr.{Expr}
use Rattle.quorum_expr.specs.declared.expression.Expr.TheVariants.{Member}
use Rattle.quorum_expr.specs.Expr.{formula_of}
use Rattle.quorum_expr.proofs.ExprLaws.{formula_of-Member}
use Rattle.quorum_expr.specs.Forms.{formulas_of}
use Rattle.quorum_expr.specs.Valid.{nodes, row_nodes}
use Rattle.quorum_expr.specs.MemberSetBits.{contains-members_of, bits_of-members_of}
use Rattle.quorum_expr.proofs.MemberSetLaws.{same_members}
use Rattle.quorum_expr.specs.MemberSet.{members_of, bits_below, bits_of}
use Rattle.std.proofs.Math.Nat.{pow-suc}
use Rattle.std.proofs.lemmas.Nat.{ones-le, ones_cat}
use lib.Count.{ones-ones}
use Rattle.std.specs.Int.{bit_at, trailing_zeros, w64}
use Rattle.std.proofs.lemmas.Nat.Bits.{bit_at-trailing_zeros}
use Rattle.std.proofs.lemmas.Bool.Decides.{nat_tests}
use Rattle.std.proofs.lemmas.Grind.{common_steps}

-- one more number
pub one_more : {A : Type 0} (n : ℕ) (test : ℕ → Bool) (f : ℕ → A) → test n ≡ true → each_below (n + 1) test f ≡ each_below n test f ++ f n ∷ []
one_more n test f h = ap (λ m. each_below m test f) (add-one n) ∙ ap (λ (b : Bool). each_below n test f ++ (if b then f n ∷ [] else [])) h

pub nil_right : {A : Type 0} (xs : List A) → xs ++ [] ≡ xs
nil_right [] = refl
nil_right (x ∷ xs) = ap (λ ys. x ∷ ys) (nil_right xs)

-- a number that doesn't pass
pub no_more : {A : Type 0} (n : ℕ) (test : ℕ → Bool) (f : ℕ → A) → test n ≡ false → each_below (n + 1) test f ≡ each_below n test f
no_more n test f h = ap (λ m. each_below m test f) (add-one n) ∙ ap (λ (b : Bool). each_below n test f ++ (if b then f n ∷ [] else [])) h ∙ nil_right _

begins : {A : Type 0} (n k : ℕ) (test : ℕ → Bool) (f : ℕ → A) → (rest : List A) × (each_below (k + n) test f ≡ each_below n test f ++ rest)
begins n zero test f =
    let none : 0 + n ≡ n = omega arith in
    ([], ap (λ m. each_below m test f) none ∙ sym (nil_right (each_below n test f)))
begins n (suc k) test f =
    let before = begins n k test f in
    let more : suc k + n ≡ suc (k + n) = omega arith in (
      before.0 ++ (if test (k + n) then f (k + n) ∷ [] else []),
      ap (λ m. each_below m test f) more ∙ ap (λ xs. xs ++ (if test (k + n) then f (k + n) ∷ [] else [])) before.1 ∙ append_assoc (each_below n test f) before.0 _,
    )

-- no number passes
pub none_listed : {A : Type 0} (n : ℕ) (test : ℕ → Bool) (f : ℕ → A) → ((x : ℕ) → x < n → test x ≡ false) → each_below n test f ≡ []
none_listed zero test f none = refl
none_listed (suc n) test f none =
    ap (λ (b : Bool). each_below n test f ++ (if b then f n ∷ [] else [])) (none n (omega arith))
    ∙ nil_right _ ∙ none_listed n test f (λ x h. none x (omega arith))

-- the first number that passes
pub first_listed : {A : Type 0} (n m : ℕ) (test : ℕ → Bool) (f : ℕ → A) → m < n → test m ≡ true → ((x : ℕ) → x < m → test x ≡ false) → slice_get (each_below n test f) 0 ≡ Some (f m)
first_listed n m test f h here none =
    let split = begins (m + 1) (n - (m + 1)) test f in
    let size : n ≡ n - (m + 1) + (m + 1) = omega arith in
    ap (λ k. slice_get (each_below k test f) 0) size ∙ ap (λ xs. slice_get xs 0) split.1
    ∙ ap (λ xs. slice_get (xs ++ split.0) 0) (one_more m test f here ∙ ap (λ xs. xs ++ f m ∷ []) (none_listed m test f none))

unless : (b : Bool) → (b ≡ true → ⊥) → b ≡ false
unless b never = grind (arith, common_steps)

-- all numbers that pass, if the test refuses the first of them
all_but_first : {A : Type 0} (n m : ℕ) (test less : ℕ → Bool) (f : ℕ → A) → test m ≡ true → ((x : ℕ) → x < m → test x ≡ false) → ((x : ℕ) → less x ≡ (not (nat_eq x m) && test x)) → each_below (n + (m + 1)) test f ≡ f m ∷ each_below (n + (m + 1)) less f
all_but_first zero m test less f here none is =
    let size : zero + (m + 1) ≡ m + 1 = omega arith in
    let fewer : (x : ℕ) → x < m → less x ≡ false = λ x h. is x ∙ grind (arith, nat_tests, none x h) in
    ap (λ k. each_below k test f) size ∙ one_more m test f here ∙ ap (λ xs. xs ++ f m ∷ []) (none_listed m test f none)
    ∙ ap (λ xs. f m ∷ xs) (sym (ap (λ k. each_below k less f) size ∙ no_more m less f (is m ∙ grind (arith, nat_tests)) ∙ none_listed m less f fewer))
all_but_first (suc n) m test less f here none is =
    let same : less (n + (m + 1)) ≡ test (n + (m + 1)) = is (n + (m + 1)) ∙ grind (arith, nat_tests) in
    let size : suc n + (m + 1) ≡ suc (n + (m + 1)) = omega arith in
    ap (λ k. each_below k test f) size ∙ ap (λ xs. xs ++ (if test (n + (m + 1)) then f (n + (m + 1)) ∷ [] else [])) (all_but_first n m test less f here none is)
    ∙ ap (λ (b : Bool). f m ∷ each_below (n + (m + 1)) less f ++ (if b then f (n + (m + 1)) ∷ [] else [])) (sym same)
    ∙ ap (λ k. f m ∷ each_below k less f) (sym size)

below_all : (m : ℕ) (ms : List ℕ) → Some m ≡ slice_get ms 0 → (64 ≤ m → ms ≡ []) → m < 64
below_all m ms is none = grind (arith, common_steps)

-- the members without the least one
pub first_removed : (s : FinSet nat_cmp) (m : ℕ) → Some m ≡ slice_get (listed s) 0 → contains s m ≡ true → ((x : ℕ) → contains s x ≡ true → m ≤ x) → (m < 64) × (listed s ≡ m ∷ listed (remove s m))
first_removed s m is here least =
    let none : (x : ℕ) → x < m → contains s x ≡ false = λ x h. unless (contains s x) (λ e. absurd (omega (arith, h, least x e))) in
    let small : m < 64 = below_all m (listed s) is (λ e. none_listed 64 (contains s) (λ x. x) (λ x h. none x (omega (arith, e, h)))) in
    let size : 64 ≡ 64 - (m + 1) + (m + 1) = omega arith in (
      small,
      ap (λ k. each_below k (contains s) (λ x. x)) size
          ∙ all_but_first (64 - (m + 1)) m (contains s) (contains (remove s m)) (λ x. x) here none (λ x. contains-remove nat_cmp_total s m x ∙ ap (λ b. not b && contains s x) (unsigned_tied x m))
          ∙ ap (λ k. m ∷ each_below k (contains (remove s m)) (λ x. x)) (sym size),
    )

outside : (p q : Bool) → (p && not q) ≡ false → p ≡ true → q ≡ true
outside true true h i = refl
outside true false h i = cc
outside false q h i = absurd (cc)

inside : (p q : Bool) → (p ≡ true → q ≡ true) → (p && not q) ≡ false
inside true q h = ap not (h refl)
inside false q h = refl

-- a set is a subset exactly where none of its members is outside
pub none_outside : (s t d : FinSet nat_cmp) (b : Bool) → d ≡ difference s t → IsTrue b ↔ (d ≡ empty) → b ≡ is_subset s t
none_outside s t d true is h =
    sym (contains-is_subset nat_cmp_total s t (λ q. outside (contains s q) (contains t q)
    (sym (contains-difference nat_cmp_total s t q) ∙ ap (λ u. contains u q) (sym is ∙ h.0 refl) ∙ contains-empty nat_cmp q)))
none_outside s t d false is h =
    elim (is_subset s t) as (λ b. is_subset s t ≡ b → false ≡ b) [
      | true ↦ λ e. h.1 (is ∙ same_members _ _ (λ q. contains-difference nat_cmp_total s t q ∙ inside (contains s q) (contains t q) (is_subset-contains nat_cmp_total s t e q) ∙ sym (contains-empty nat_cmp q)))
      | false ↦ λ e. refl
    ] refl

pub empty_listed : (s : FinSet nat_cmp) → s ≡ empty → listed s ≡ []
empty_listed s is = none_listed 64 (contains s) (λ x. x) (λ x h. ap (λ t. contains t x) is ∙ contains-empty nat_cmp x)

pub none_in_empty : (s : FinSet nat_cmp) → s ≡ empty → None ≡ slice_get (listed s) 0
none_in_empty s is = ap (λ xs. slice_get xs 0) (sym (empty_listed s is))

absent : (x : ℕ) (b : ℕ) → b ≡ 0 → (nat_lt x 64 && nat_eq b 1) ≡ false
absent x b h = grind (arith, nat_tests, h)

present : (x : ℕ) (b : ℕ) → x < 64 → b ≡ 1 → (nat_lt x 64 && nat_eq b 1) ≡ true
present x b h i = grind (arith, nat_tests, h, i)

-- the least member is the place of the lowest bit that is 1
pub least_of : (n : ℕ) (s : FinSet nat_cmp) → members_of n ≡ s → 0 < n → n < 2 ^ 64 → (Some (trailing_zeros w64 n) ≡ slice_get (listed s) 0) × (contains s (trailing_zeros w64 n) ≡ true) × ((x : ℕ) → contains s x ≡ true → trailing_zeros w64 n ≤ x)
least_of n s is some fits =
    let lowest = bit_at-trailing_zeros w64 n some fits in
    let m = trailing_zeros w64 n in
    let here : contains s m ≡ true = ap (λ t. contains t m) (sym is) ∙ contains-members_of n m ∙ present m (bit_at n m) lowest.0 lowest.1 in
    let below : (x : ℕ) → x < m → contains s x ≡ false = λ x h. ap (λ t. contains t x) (sym is) ∙ contains-members_of n x ∙ absent x (bit_at n x) (lowest.2 x h) in
    (sym (first_listed 64 m (contains s) (λ x. x) lowest.0 here below), here, λ x h. not_below m x (λ lt. true≢false (sym h ∙ below x lt)))
  where
    not_below : (m x : ℕ) → ¬ (x < m) → m ≤ x
    not_below m x h = omega arith

-- the numbers below a bound are as many as the bits of their number that are 1
bits_below-small : (k : ℕ) (s : FinSet nat_cmp) → bits_below k s < 2 ^ k
unfolding bits_below
bits_below-small zero s = omega arith
bits_below-small (suc k) s = grind (arith, common_steps, pow-suc, (bits_below-small k s))

ones_below : (k : ℕ) (s : FinSet nat_cmp) → count_ones (bits_below k s) ≡ length (each_below k (contains s) (λ x. x))
unfolding bits_below
ones_below zero s = omega (arith, ones-le 0 0 (omega arith))
ones_below (suc k) s =
    ap count_ones (as_block (contains s k)) ∙ ones_cat k (if contains s k then 1 else 0) (bits_below k s) (bits_below-small k s)
    ∙ last (contains s k) (ones_below k s) ∙ sym (length-append (each_below k (contains s) (λ x. x)) _)
  where
    as_block : (b : Bool) → (if b then 2 ^ k else 0) + bits_below k s ≡ (if b then 1 else 0) * 2 ^ k + bits_below k s
    as_block true = omega arith
    as_block false = omega arith

    last : (b : Bool) → count_ones (bits_below k s) ≡ length (each_below k (contains s) (λ x. x)) → count_ones (if b then 1 else 0) + count_ones (bits_below k s) ≡ length (each_below k (contains s) (λ x. x)) + length (if b then k ∷ [] else [])
    last true h = omega (arith, h, ones-ones 1)
    last false h = omega (arith, h, ones-le 0 0 (omega arith))

pub ones_listed : (n : ℕ) (s : FinSet nat_cmp) → members_of n ≡ s → n < 2 ^ 64 → count_ones n ≡ length (listed s)
unfolding bits_of
ones_listed n s is fits = ap count_ones (sym (bits_of-members_of n fits)) ∙ ones_below 64 (members_of n) ∙ ap (λ t. length (listed t)) is

-- ---- the nodes of lists of weighted expressions

pub pushed_nodes : {A : Type 0} (es : List (ℕ × Expr A)) (e : ℕ × Expr A) → row_nodes (each_once (formulas_of (es ++ e ∷ []))) ≡ row_nodes (each_once (formulas_of es)) + nodes (formula_of e.1)
pushed_nodes [] e = omega arith
pushed_nodes (x ∷ es) e = omega (arith, pushed_nodes es e)

-- ---- a list of members that grows by one

pub formulas_pushed : {A : Type 0} (es : List (ℕ × Expr A)) (e : ℕ × Expr A) → formulas_of (es ++ e ∷ []) ≡ formulas_of es ++ formula_of e.1 ∷ []
formulas_pushed [] e = refl
formulas_pushed (x ∷ es) e = ap (λ fs. formula_of x.1 ∷ fs) (formulas_pushed es e)

pub member_moved : {A : Type 0} (before after : List (ℕ × Expr A)) (w m : ℕ) (ms rest all : List ℕ) → after ≡ before ++ (w, Member m) ∷ [] → ms ≡ m ∷ rest → formulas_of before ++ map member ms ≡ map member all → formulas_of after ++ map member rest ≡ map member all
member_moved {A} before after w m ms rest all more is h =
    ap (λ fs. fs ++ map member rest) (ap formulas_of more ∙ formulas_pushed before (w, Member m) ∙ ap (λ f. formulas_of before ++ f ∷ []) (formula_of-Member A m))
    ∙ append_assoc (formulas_of before) (member m ∷ []) (map member rest) ∙ ap (λ xs. formulas_of before ++ map member xs) (sym is) ∙ h

pub member_counted : {A : Type 0} (before after : List (ℕ × Expr A)) (w m room left whole : ℕ) → after ≡ before ++ (w, Member m) ∷ [] → left ≡ room - 1 → room ≡ whole - row_nodes (each_once (formulas_of before)) → left ≡ whole - row_nodes (each_once (formulas_of after))
member_counted {A} before after w m room left whole more less h =
    let one : row_nodes (each_once (formulas_of after)) ≡ row_nodes (each_once (formulas_of before)) + 1 = ap (λ es. row_nodes (each_once (formulas_of es))) more ∙ pushed_nodes before (w, Member m) ∙ ap (λ f. row_nodes (each_once (formulas_of before)) + nodes f) (formula_of-Member A m) in
    omega (arith, one)
