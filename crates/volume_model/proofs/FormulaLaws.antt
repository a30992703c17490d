-- Laws of formulas, whatever they weigh.
use Rattle.std.proofs.Common.{◌≡◌, ◌≢◌, ℕ, zero, suc, ◌+◌, ◌-◌, ◌<◌, ◌≤◌, arith, refl, ap, ◌∙◌, Bool, true, false, not, ◌&&◌, nat_lt, nat_eq, nat_le, if◌then◌else◌, List, [], ◌∷◌, Some, slice_get}
use Rattle.std.specs.List.{IsDistinct, AllByRecursion}
use Rattle.std.proofs.lemmas.Bool.Decides.{nat_tests}
use Rattle.volume_model.specs.Common.{Formula, Children, Members, at_least, no_child, child, sat, weight_held, total_weight, formulas, weight_at, EachWeighs, each_weighs, dual_of, duals_of, HasCounts, EachHasCounts, SpeaksOf, EachSpeaksOf}
use Rattle.volume_model.specs.Formula.{member}
use Rattle.std.proofs.lemmas.Grind.{common_steps}

-- ---- more members, more that holds

held_le : (b c : Bool) (w m n : ℕ) → (b ≡ true → c ≡ true) → m ≤ n → (if b then w else 0) + m ≤ (if c then w else 0) + n
held_le true c w m n h le = rw (h refl) (omega arith)
held_le false true w m n h le = omega arith
held_le false false w m n h le = omega arith

enough : (k m n : ℕ) → m ≤ n → nat_le k m ≡ true → nat_le k n ≡ true
enough k m n le h = grind (arith, nat_tests)

mutual
  pub sat_more : (f : Formula) (s t : Members) → ((x : ℕ) → s x ≡ true → t x ≡ true) → sat f s ≡ true → sat f t ≡ true
  sat_more (member x) s t more h = more x h
  sat_more (at_least k of) s t more h = enough k (weight_held of s) (weight_held of t) (weight_held_more of s t more) h

  pub weight_held_more : (of : Children) (s t : Members) → ((x : ℕ) → s x ≡ true → t x ≡ true) → weight_held of s ≤ weight_held of t
  weight_held_more no_child s t more = omega arith
  weight_held_more (child w f fs) s t more = held_le (sat f s) (sat f t) w _ _ (sat_more f s t more) (weight_held_more fs s t more)

-- ---- only its own members count

mutual
  pub sat-own : (f : Formula) (own s t : Members) → SpeaksOf f own → ((x : ℕ) → own x ≡ true → s x ≡ t x) → sat f s ≡ sat f t
  sat-own (member x) own s t speaks same = same x speaks
  sat-own (at_least k of) own s t speaks same = ap (nat_le k) (weight_held-own of own s t speaks same)

  weight_held-own : (of : Children) (own s t : Members) → EachSpeaksOf of own → ((x : ℕ) → own x ≡ true → s x ≡ t x) → weight_held of s ≡ weight_held of t
  weight_held-own no_child own s t speaks same = refl
  weight_held-own (child w f fs) own s t speaks same =
      λ i. (if sat-own f own s t speaks.0 same i then w else 0) + weight_held-own fs own s t speaks.1 same i

-- ---- no formula holds in an empty set

reached : (k held : ℕ) → 0 < k → nat_le k held ≡ true → 0 < held
reached k held low h = grind (arith, nat_tests)

mutual
  pub sat-some : (f : Formula) (s : Members) → HasCounts f → sat f s ≡ true → (x : ℕ) × (s x ≡ true)
  sat-some (member x) s counts h = (x, h)
  sat-some (at_least k of) s counts h = weight_held-some of s counts.3 (reached k (weight_held of s) counts.0 h)

  weight_held-some : (of : Children) (s : Members) → EachHasCounts of → 0 < weight_held of s → (x : ℕ) × (s x ≡ true)
  weight_held-some no_child s counts h = absurd (omega arith)
  weight_held-some (child w f fs) s counts h =
      elim (sat f s) as (λ b. sat f s ≡ b → (x : ℕ) × (s x ≡ true)) [
        | true ↦ λ yes. sat-some f s counts.0 yes
        | false ↦ λ no. weight_held-some fs s counts.1 (let h' : 0 < 0 + weight_held fs s = rw no at h in omega arith)
      ] refl

-- ---- the weights of the children that don't hold

-- the weights of the children that don't hold, and 0 for each that holds
abbrev pub unheld : Children → Members → List ℕ
unheld no_child s = []
unheld (child w f fs) s = (if sat f s then 0 else w) ∷ unheld fs s

-- the sum of all
abbrev pub sum_up : List ℕ → ℕ
sum_up [] = 0
sum_up (x ∷ xs) = x + sum_up xs

-- the number at a place, and 0 where there is none
abbrev pub item : List ℕ → ℕ → ℕ
item [] k = 0
item (x ∷ xs) zero = x
item (x ∷ xs) (suc k) = item xs k

-- the sum of the numbers at these places
abbrev pub picked : List ℕ → List ℕ → ℕ
picked xs [] = 0
picked xs (c ∷ cs) = item xs c + picked xs cs

both_ways : (b : Bool) (w : ℕ) → (if b then 0 else w) + (if b then w else 0) ≡ w
both_ways true w = omega arith
both_ways false w = omega arith

pub unheld-sum : (of : Children) (s : Members) → sum_up (unheld of s) + weight_held of s ≡ total_weight of
unheld-sum no_child s = refl
unheld-sum (child w f fs) s = omega (arith, unheld-sum fs s, both_ways (sat f s) w)

pub unheld-at : (of : Children) (s : Members) (c : ℕ) (f : Formula) → slice_get (formulas of) c ≡ Some f → sat f s ≡ false → item (unheld of s) c ≡ weight_at of c
unheld-at no_child s c f at h = cc
unheld-at (child w g fs) s zero f at h = grind (arith, common_steps)
unheld-at (child w g fs) s (suc c) f at h = unheld-at fs s c f at h

-- ---- numbers at distinct places add up to no more than all

-- the numbers with 0 at one place
abbrev emptied : List ℕ → ℕ → List ℕ
emptied [] k = []
emptied (x ∷ xs) zero = 0 ∷ xs
emptied (x ∷ xs) (suc k) = x ∷ emptied xs k

emptied-sum : (xs : List ℕ) (k : ℕ) → sum_up (emptied xs k) + item xs k ≡ sum_up xs
emptied-sum [] k = refl
emptied-sum (x ∷ xs) zero = omega arith
emptied-sum (x ∷ xs) (suc k) = omega (arith, emptied-sum xs k)

emptied-other : (xs : List ℕ) (k j : ℕ) → k ≢ j → item (emptied xs k) j ≡ item xs j
emptied-other [] k j ne = refl
emptied-other (x ∷ xs) zero zero ne = absurd (ne refl)
emptied-other (x ∷ xs) zero (suc j) ne = refl
emptied-other (x ∷ xs) (suc k) zero ne = refl
emptied-other (x ∷ xs) (suc k) (suc j) ne = emptied-other xs k j (λ e. ne (ap suc e))

differ : (k j : ℕ) → nat_eq k j ≡ false → k ≢ j
differ k j h = grind (arith, nat_tests)

picked-emptied : (cs xs : List ℕ) (k : ℕ) → AllByRecursion (λ y. nat_eq k y ≡ false) cs → picked (emptied xs k) cs ≡ picked xs cs
picked-emptied [] xs k all = refl
picked-emptied (c ∷ cs) xs k all = omega (arith, emptied-other xs k c (differ k c all.0), picked-emptied cs xs k all.1)

pub picked_le : (cs xs : List ℕ) → IsDistinct nat_eq cs → picked xs cs ≤ sum_up xs
unfolding IsDistinct
picked_le [] xs distinct = omega arith
picked_le (c ∷ cs) xs distinct = grind (arith, common_steps, emptied, picked-emptied, emptied-sum, (picked_le cs (emptied xs c) distinct.1))

-- ---- duals

twice : (b : Bool) → b ≡ not (not b)
twice true = refl
twice false = refl

-- the threshold of the dual is met where the threshold isn't by the others
other_side : (k held held_dual total : ℕ) → 0 < k → k ≤ total → held_dual + held ≡ total → nat_le (total + 1 - k) held_dual ≡ not (nat_le k held)
other_side k held held_dual total low high all = grind (arith, nat_tests)

split_weight : (b : Bool) (w m n : ℕ) → (if not b then w else 0) + m + ((if b then w else 0) + n) ≡ w + (m + n)
split_weight true w m n = omega arith
split_weight false w m n = omega arith

mutual
  pub sat-dual_of : (f : Formula) (s : Members) → HasCounts f → sat (dual_of f) s ≡ not (sat f (λ x. not (s x)))
  sat-dual_of (member x) s h = twice (s x)
  sat-dual_of (at_least k of) s h = other_side k (weight_held of (λ x. not (s x))) (weight_held (duals_of of) s) (total_weight of) h.0 h.1 (weight_held-duals_of of s h.3)

  pub weight_held-duals_of : (of : Children) (s : Members) → EachHasCounts of → weight_held (duals_of of) s + weight_held of (λ x. not (s x)) ≡ total_weight of
  weight_held-duals_of no_child s h = refl
  weight_held-duals_of (child w f fs) s h =
      ap (λ (b : Bool). (if b then w else 0) + weight_held (duals_of fs) s + ((if sat f (λ x. not (s x)) then w else 0) + weight_held fs (λ x. not (s x)))) (sat-dual_of f s h.0)
      ∙ split_weight (sat f (λ x. not (s x))) w _ _ ∙ ap (λ n. w + n) (weight_held-duals_of fs s h.1)

-- ---- children that each count as one

first_weighs : (w : ℕ) (rest : Bool) → (nat_lt 0 w && rest) ≡ true → (0 < w) × (rest ≡ true)
first_weighs w rest h = grind (arith, nat_tests)

pub EachWeighs-from : (of : Children) → each_weighs of ≡ true → EachWeighs of
EachWeighs-from no_child h = tt
EachWeighs-from (child w f fs) h = let both = first_weighs w (each_weighs fs) h in (both.0, EachWeighs-from fs both.1)

weighs_too : (w : ℕ) (rest : Bool) → 0 < w → rest ≡ true → (nat_lt 0 w && rest) ≡ true
weighs_too w rest h t = grind (arith, nat_tests)

pub EachWeighs-to : (of : Children) → EachWeighs of → each_weighs of ≡ true
EachWeighs-to no_child h = refl
EachWeighs-to (child w f fs) h = weighs_too w (each_weighs fs) h.0 (EachWeighs-to fs h.1)
