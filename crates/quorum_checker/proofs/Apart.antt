-- Two sets that are left of a claim's named members are a witness.
use Rattle.std.proofs.Common.{◌≡◌, ◌∙◌, ℕ, zero, suc, ◌<◌, ◌≤◌, Bool, true, false, List, [], ◌∷◌, ◌++◌, refl, sym, ap, inl, inr, arith, not, ◌&&◌, nat_lt, if◌then◌else◌, lt-ltb}
use Rattle.std.specs.Ordering.{nat_cmp}
use Rattle.std.specs.Cmp.{nat_cmp_total}
use Rattle.std.specs.FinSet.{FinSet, empty, contains, difference, contains-difference, contains-intersection}
use Rattle.std.proofs.lemmas.Bool.Decides.{nat_tests}
use Rattle.volume_model.specs.Common.{Formula, sat, IsIn, each_below, listed}
use Rattle.quorum_expr.specs.Common.{all_members, formula_of}
use Rattle.quorum_expr.proofs.MemberSetLaws.{contains-all_members}
use Rattle.quorum_checker.specs.declared.claim.Claim.{Claim}
use Rattle.quorum_checker.specs.Witness.{IsWitnessOf}
use Rattle.quorum_checker.specs.declared.showing.Witness.{Witness}
use Rattle.quorum_checker.specs.Naming.{named}
use Rattle.quorum_checker.specs.Cases.{present, AreSmall}
use Rattle.quorum_checker.specs.Decision.{AreApart, common}
use Rattle.quorum_checker.proofs.Named.{sat-named, named-below}
use Rattle.quorum_checker.proofs.Complete.{AreLeft}
use Rattle.std.proofs.lemmas.Grind.{common_steps}

parts_of : (p q : Bool) → (p && not q) ≡ true → (p ≡ true) × (q ≡ false)
parts_of true true e = absurd cc
parts_of true false e = (refl, refl)
parts_of false q e = absurd cc

both_so : (p q : Bool) → p ≡ true → q ≡ true → (p && q) ≡ true
both_so true q h i = i
both_so false q h i = absurd cc

not_so : (p q : Bool) → p ≡ true → q ≡ false → (p && not q) ≡ true
not_so true false h i = refl
not_so true true h i = absurd cc
not_so false q h i = absurd cc

never : (p : Bool) → p ≡ true → p ≡ false → ⊥
never true e f = cc
never false e f = cc

in_difference : (s t : FinSet nat_cmp) (x : ℕ) → contains (difference s t) x ≡ true → (contains s x ≡ true) × (contains t x ≡ false)
in_difference s t x h = parts_of (contains s x) (contains t x) (sym (contains-difference nat_cmp_total s t x) ∙ h)

-- what a formula names suffices
pub still_satisfies : (f : Formula) (a : FinSet nat_cmp) → sat f (present a) ≡ true → sat f (contains (difference (named f) a)) ≡ true
still_satisfies f a h =
    sat-named f (contains (difference (named f) a)) (present a)
    (λ x is. contains-difference nat_cmp_total (named f) a x ∙ ap (λ p. p && not (contains a x)) (is ∙ sym (contains-all_members x ∙ lt-ltb x 64 (named-below f x is))) ∙ sym (contains-difference nat_cmp_total all_members a x))
    (λ x high. contains-difference nat_cmp_total (named f) a x ∙ ap (λ p. p && not (contains a x)) (outside x high ∙ sym (contains-all_members x ∙ high)) ∙ sym (contains-difference nat_cmp_total all_members a x))
    ∙ h
  where
    outside : (x : ℕ) → nat_lt x 64 ≡ false → contains (named f) x ≡ false
    outside x high = grind (arith, common_steps, never, lt-ltb, named-below)

pub in_common : {A : Type 0} (claim : Claim A) (x : ℕ) → contains (named (formula_of claim.left)) x ≡ true → contains claim.clear x ≡ false → contains (named (formula_of claim.right)) x ≡ true → contains (common claim) x ≡ true
in_common claim x left free right =
    contains-intersection nat_cmp_total (difference (named (formula_of claim.left)) claim.clear) (named (formula_of claim.right)) x
    ∙ both_so (contains (difference (named (formula_of claim.left)) claim.clear) x) (contains (named (formula_of claim.right)) x) (contains-difference nat_cmp_total (named (formula_of claim.left)) claim.clear x ∙ not_so (contains (named (formula_of claim.left)) x) (contains claim.clear x) left free) right

free_of : (p q : Bool) → (p ≡ true → q ≡ true) → q ≡ false → p ≡ false
free_of true q more none = absurd (never q (more refl) none)
free_of false q more none = refl

pub is_witness : {A : Type 0} (claim : Claim A) (a b : FinSet nat_cmp) (w : Witness) → w.left ≡ difference (named (formula_of claim.left)) a → w.right ≡ difference (named (formula_of claim.right)) b → AreApart claim a b → IsWitnessOf claim w
is_witness claim a b w left right given =
    let f = formula_of claim.left in
    let h = formula_of claim.right in
    let on_left : (x : ℕ) → contains w.left x ≡ true → (contains (named f) x ≡ true) × (contains a x ≡ false) = λ x i. in_difference (named f) a x (ap (λ s. contains s x) (sym left) ∙ i) in
    let on_right : (x : ℕ) → contains w.right x ≡ true → (contains (named h) x ≡ true) × (contains b x ≡ false) = λ x i. in_difference (named h) b x (ap (λ s. contains s x) (sym right) ∙ i) in
    record {
      left_members = λ x i. named-below f x (on_left x i).0;
      right_members = λ x i. named-below h x (on_right x i).0;
      disjoint = λ x i j. elim (given.covered x (in_common claim x (on_left x i).0 (free_of (contains claim.clear x) (contains a x) (given.clear x) (on_left x i).1) (on_right x j).0)) [
        | inl is ↦ never (contains a x) is (on_left x i).1
        | inr is ↦ never (contains b x) is (on_right x j).1
      ];
      clear_of = λ x i j. never (contains a x) (given.clear x j) (on_left x i).1;
      satisfies_left = ap (λ s. sat f (contains s)) left ∙ still_satisfies f a given.satisfies_left;
      satisfies_right = ap (λ s. sat h (contains s)) right ∙ still_satisfies h b given.satisfies_right;
    }

-- ---- the members of a set, one after the other

small_append : (xs ys : List ℕ) → AreSmall xs → AreSmall ys → AreSmall (xs ++ ys)
small_append [] ys h i = i
small_append (x ∷ xs) ys h i = (h.0, small_append xs ys h.1 i)

small_below : (n : ℕ) (test : ℕ → Bool) → n ≤ 64 → AreSmall (each_below n test (λ x. x))
small_below zero test h = tt
small_below (suc n) test h = grind (arith, common_steps, small_append, Bool, (small_below n test (omega arith)))

pub listed_small : (s : FinSet nat_cmp) → AreSmall (listed s)
listed_small s = small_below 64 (contains s) (omega arith)

in_append_left : (x : ℕ) (xs ys : List ℕ) → IsIn x xs → IsIn x (xs ++ ys)
in_append_left x [] ys h = absurd h
in_append_left x (y ∷ xs) ys h = elim h [
  | inl is ↦ inl is
  | inr later ↦ inr (in_append_left x xs ys later)
]

in_append_right : (x : ℕ) (xs ys : List ℕ) → IsIn x ys → IsIn x (xs ++ ys)
in_append_right x [] ys h = h
in_append_right x (y ∷ xs) ys h = inr (in_append_right x xs ys h)

in_below : (n x : ℕ) (test : ℕ → Bool) → x < n → test x ≡ true → IsIn x (each_below n test (λ y. y))
in_below zero x test h i = absurd (omega arith)
in_below (suc n) x test h i =
    elim (nat_lt x n) as (λ b. nat_lt x n ≡ b → IsIn x (each_below n test (λ y. y) ++ (if test n then n ∷ [] else []))) [
      | true ↦ λ e. in_append_left x (each_below n test (λ y. y)) (if test n then n ∷ [] else []) (in_below n x test (grind (arith, nat_tests, e)) i)
      | false ↦ grind (arith, common_steps, nat_tests, in_append_right)
    ] refl

pub in_listed : (s : FinSet nat_cmp) (x : ℕ) → x < 64 → contains s x ≡ true → IsIn x (listed s)
in_listed s x h i = in_below 64 x (contains s) h i

-- what the cases of the common members leave
pub apart_of : {A : Type 0} (claim : Claim A) (p q : FinSet nat_cmp) → AreLeft (listed (common claim)) (formula_of claim.left) (formula_of claim.right) claim.clear empty p q → AreApart claim p q
apart_of claim p q w = record {
  clear = w.more_left;
  satisfies_left = w.satisfies_left;
  satisfies_right = w.satisfies_right;
  covered = λ x h. w.covered x (in_listed (common claim) x (common_below claim x h) h);
}
  where
    common_below : {A : Type 0} (claim : Claim A) (x : ℕ) → contains (common claim) x ≡ true → x < 64
    common_below claim x h =
        named-below (formula_of claim.right) x (second (contains (difference (named (formula_of claim.left)) claim.clear) x) (contains (named (formula_of claim.right)) x)
        (sym (contains-intersection nat_cmp_total (difference (named (formula_of claim.left)) claim.clear) (named (formula_of claim.right)) x) ∙ h))
      where
        second : (p q : Bool) → (p && q) ≡ true → q ≡ true
        second true q h = h
        second false q h = absurd cc
