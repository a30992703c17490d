-- Fresh members weren't in use before.
use Rattle.std.proofs.Common.{◌≡◌, ℕ, zero, suc, ◌<◌, ◌≤◌, List, [], ◌∷◌, arith, refl, ap, ◌∙◌, sym, ◌++◌, inl, inr, Bool, true, false, not, nat_lt, if◌then◌else◌, Option, Some, None, slice_get}
use Rattle.std.proofs.lemmas.Bool.{cases_lt, and_parts}
use Rattle.std.proofs.lemmas.Bool.Decides.{nat_tests}
use Rattle.std.specs.Ordering.{nat_cmp}
use Rattle.std.specs.Cmp.{nat_cmp_total}
use Rattle.std.specs.FinSet.{FinSet, contains, difference, contains-difference}
use Rattle.volume_model.specs.Common.{each_below, listed}
use Rattle.plan.specs.PlanData.{ConfigurationData, configuration_at, earlier, parent_at, by_parent}
use Rattle.plan.specs.PlanFaults.{is_good_parent, unused_within}
use Rattle.std.proofs.lemmas.Grind.{common_steps}

-- ---- members of differences

pub in-difference : (s t : FinSet nat_cmp) (x : ℕ) → contains (difference s t) x ≡ true → (contains s x ≡ true) × (contains t x ≡ false)
in-difference s t x h = grind (arith, common_steps, (and_parts (contains s x) (not (contains t x)) (sym (contains-difference nat_cmp_total s t x) ∙ h)), (not (contains t x)))

-- ---- parents

-- each configuration up to this one has a good parent
abbrev pub GoodParents : List ConfigurationData → ℕ → Type 0
GoodParents group c = (k : ℕ) → k ≤ c → is_good_parent k (configuration_at group k).parent ≡ true

-- a good parent of a child is there and stands before it
pub parent-there : (c : ℕ) (q : Option ℕ) → 0 < c → is_good_parent c q ≡ true → (p : ℕ) × (q ≡ Some p) × (p < c)
parent-there c None low h = absurd (let is : c ≡ 0 = grind (arith, nat_tests, h) in omega arith)
parent-there c (Some p) low h = (p, refl, grind (arith, nat_tests, h))

lt_true : (i n : ℕ) → i < n → nat_lt i n ≡ true
lt_true i n h = grind (arith, nat_tests)

pub parent_at-is : (group : List ConfigurationData) (c p : ℕ) → (configuration_at group c).parent ≡ Some p → p < c → parent_at group c ≡ Some p
parent_at-is group c p is below = ap (earlier c) is ∙ ap (λ b. if b then Some p else None) (lt_true p c below)

-- what is left of a set is in the set
pub unused-within : (n : ℕ) (group : List ConfigurationData) (c : ℕ) (s : FinSet nat_cmp) (x : ℕ) → contains (unused_within n group c s) x ≡ true → contains s x ≡ true
unused-within zero group c s x h = h
unused-within (suc n) group c s x h =
    elim (parent_at group c) as (λ q. contains (by_parent q s (λ p. unused_within n group p (difference s (configuration_at group p).members))) x ≡ true → contains s x ≡ true) [
      | None ↦ λ e. e
      | Some p ↦ λ e. (in-difference s (configuration_at group p).members x (unused-within n group p (difference s (configuration_at group p).members) x e)).0
    ] h

-- ---- a set without a least member

append_none : (xs ys : List ℕ) → slice_get (xs ++ ys) 0 ≡ None → (slice_get xs 0 ≡ None) × (slice_get ys 0 ≡ None)
append_none [] ys h = (refl, h)
append_none (x ∷ xs) ys h = absurd (cc)

none_in : (b : Bool) (n : ℕ) → slice_get (if b then n ∷ [] else []) 0 ≡ None → b ≡ false
none_in true n h = absurd (cc)
none_in false n h = refl

pub nobody_below : (n : ℕ) (test : ℕ → Bool) (x : ℕ) → slice_get (each_below n test (λ y. y)) 0 ≡ None → x < n → test x ≡ false
nobody_below zero test x h lt = absurd (omega arith)
nobody_below (suc n) test x h lt =
    let parts = append_none (each_below n test (λ y. y)) (if test n then n ∷ [] else []) h in
    elim (cases_lt x n) [
      | inl below ↦ nobody_below n test x parts.0 below
      | inr past ↦ (let same : x ≡ n = omega arith in ap test same ∙ none_in (test n) n parts.1)
    ]

pub nobody : (s : FinSet nat_cmp) (x : ℕ) → slice_get (listed s) 0 ≡ None → x < 64 → contains s x ≡ false
nobody s x h lt = nobody_below 64 (contains s) x h lt
