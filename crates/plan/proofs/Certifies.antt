-- A plan whose claims all have rules that refute them is certified, once it is written with these.
use Rattle.std.proofs.Common.{◌≡◌, ◌∙◌, ap, sym, subst, refl, ℕ, zero, suc, ◌+◌, ◌<◌, true, false, List, [], ◌∷◌, ◌++◌, Option, Some, None, Result, Ok, length, drop, arith, inl, inr, slice_get, slice_index_or, drop-drop, length-append}
use Rattle.std.specs.Ordering.{nat_cmp}
use Rattle.std.specs.FinSet.{FinSet, difference, empty}
use Rattle.std.proofs.lemmas.Bool.{cases_lt}
use Rattle.volume_model.specs.Common.{dual_of, listed}
use Rattle.refutation.specs.Common.{Rule}
use Rattle.quorum_checker.specs.Refutes.{claim_state}
use Rattle.plan.specs.declared.fault.PlanFault.{PlanFault}
use Rattle.plan.specs.declared.fault.PlanFault.TheVariants.{BadParent}
use Rattle.plan.specs.PlanData.{ConfigurationData, PlanData, configuration_at, earlier, by_parent}
use Rattle.plan.specs.PlanFaults.{is_good_parent, reuse_fault, shape_fault, fresh_at, unused_within, reused_at, reused_member, meets_claim, step_claim}
use Rattle.plan.specs.PlanText.{◌>=>◌}
use Rattle.plan.specs.PlanClaims.{PlacedClaim, claims_at, unless, configuration_claims, claims_below, group_claims, claims_in}
use Rattle.plan.specs.WithCertificates.{certificate_at, claim_count, claim_counts, configuration_with, configurations_with, groups_with, with_certificates}
use Rattle.plan.specs.Certified.{IsShown, IsStepShown, IsCertifiedAt, IsCertifiedPlan}
use Rattle.plan.proofs.Reused.{reuse_is_found}
use Rattle.plan.proofs.Found.{passes}
use Rattle.plan.proofs.Reread.{then_ok, ok_is}
use Rattle.plan.specs.Shown.{AreShown}
use Rattle.plan.specs.Sums.{sum_below}
use Rattle.std.proofs.lemmas.Grind.{common_steps}
use Rattle.std.proofs.Common.{rules}

-- ---- claims and rules

shown_parts : (xs ys : List PlacedClaim) (rules : List (Option Rule)) → AreShown (xs ++ ys) rules → AreShown xs rules × AreShown ys (drop (length xs) rules)
shown_parts [] ys rules h = (tt, h)
shown_parts (x ∷ xs) ys [] h = absurd h
shown_parts (x ∷ xs) ys (rule ∷ rules) h = let parts = shown_parts xs ys rules h.1 in ((h.0, parts.0), parts.1)

-- ---- lists of claims, one after the other

module _ (claims_of : ℕ → Result (List PlacedClaim) PlanFault) (count : ℕ → ℕ) (counted : (i : ℕ) (ys : List PlacedClaim) → claims_of i ≡ Ok ys → length ys ≡ count i) where
  below_counted : (n : ℕ) (xs : List PlacedClaim) → claims_below n claims_of ≡ Ok xs → length xs ≡ sum_below count n
  below_counted zero xs h = ap length (sym (ok_is [] xs h))
  below_counted (suc n) xs h =
      let before = then_ok (claims_below n claims_of) (λ before. claims_of n >=> λ here. Ok (before ++ here)) xs h in
      let here = then_ok (claims_of n) (λ here. Ok (before.0 ++ here)) xs before.2 in
      let joined : before.0 ++ here.0 ≡ xs = ok_is (before.0 ++ here.0) xs here.2 in
      ap length (sym joined) ∙ (length-append before.0 here.0 ∙ (λ i. below_counted n before.0 before.1 i + counted n here.0 here.1 i))

  -- the claims of each number are shown by the rules in their places
  below_shown : (n : ℕ) (xs : List PlacedClaim) (rules : List (Option Rule)) → claims_below n claims_of ≡ Ok xs → AreShown xs rules
      → (i : ℕ) → i < n → (ys : List PlacedClaim) × (claims_of i ≡ Ok ys) × AreShown ys (drop (sum_below count i) rules)
  below_shown zero xs rules h shown i below = absurd (omega arith)
  below_shown (suc n) xs rules h shown i below =
      let before = then_ok (claims_below n claims_of) (λ before. claims_of n >=> λ here. Ok (before ++ here)) xs h in
      let here = then_ok (claims_of n) (λ here. Ok (before.0 ++ here)) xs before.2 in
      let joined : before.0 ++ here.0 ≡ xs = ok_is (before.0 ++ here.0) xs here.2 in
      let parts = shown_parts before.0 here.0 rules (subst (λ (zs : List PlacedClaim). AreShown zs rules) (sym joined) shown) in
      elim (cases_lt i n) [
        | inl earlier ↦ below_shown n before.0 rules before.1 parts.0 i earlier
        | inr past ↦ grind (arith, common_steps, below_counted)
      ]

-- ---- the same configurations, except their certificates

parent-same : (xs : List ConfigurationData) (rules : List (Option Rule)) (c : ℕ) → (configuration_at (configurations_with xs rules) c).parent ≡ (configuration_at xs c).parent
parent-same [] rules c = refl
parent-same (x ∷ xs) rules zero = refl
parent-same (x ∷ xs) rules (suc c) = parent-same xs (drop (claim_count x) rules) c

members-same : (xs : List ConfigurationData) (rules : List (Option Rule)) (c : ℕ) → (configuration_at (configurations_with xs rules) c).members ≡ (configuration_at xs c).members
members-same [] rules c = refl
members-same (x ∷ xs) rules zero = refl
members-same (x ∷ xs) rules (suc c) = members-same xs (drop (claim_count x) rules) c

read-same : (xs : List ConfigurationData) (rules : List (Option Rule)) (c : ℕ) → (configuration_at (configurations_with xs rules) c).read ≡ (configuration_at xs c).read
read-same [] rules c = refl
read-same (x ∷ xs) rules zero = refl
read-same (x ∷ xs) rules (suc c) = read-same xs (drop (claim_count x) rules) c

length-written : (xs : List ConfigurationData) (rules : List (Option Rule)) → length (configurations_with xs rules) ≡ length xs
length-written [] rules = refl
length-written (x ∷ xs) rules = ap suc (length-written xs (drop (claim_count x) rules))

length-groups : (groups : List (List ConfigurationData)) (rules : List (Option Rule)) → length (groups_with groups rules) ≡ length groups
length-groups [] rules = refl
length-groups (xs ∷ groups) rules = ap suc (length-groups groups (drop (claim_counts xs) rules))

fresh-same : (xs : List ConfigurationData) (rules : List (Option Rule)) (c : ℕ) → fresh_at (configurations_with xs rules) c ≡ fresh_at xs c
fresh-same xs rules c = λ i. by_parent (parent-same xs rules c i) empty (λ p. difference (members-same xs rules c i) (members-same xs rules p i))

unused-same : (xs : List ConfigurationData) (rules : List (Option Rule)) (n c : ℕ) (s : FinSet nat_cmp) → unused_within n (configurations_with xs rules) c s ≡ unused_within n xs c s
unused-same xs rules zero c s = refl
unused-same xs rules (suc n) c s =
    let above = λ (p : ℕ). unused-same xs rules n p (difference s (configuration_at (configurations_with xs rules) p).members)
    ∙ ap (λ (m : FinSet nat_cmp). unused_within n xs p (difference s m)) (members-same xs rules p) in
    λ i. by_parent (earlier c (parent-same xs rules c i)) s (λ p. above p i)

reused-same : (xs : List ConfigurationData) (rules : List (Option Rule)) (c : ℕ) → reused_at (configurations_with xs rules) c ≡ reused_at xs c
reused-same xs rules c = grind (arith, common_steps, unused-same, fresh-same)

step-same : (xs : List ConfigurationData) (rules : List (Option Rule)) (c p : ℕ) → step_claim (configurations_with xs rules) c p ≡ step_claim xs c p
step-same xs rules c p = λ i. claim_state (read-same xs rules c i) (dual_of (read-same xs rules p i)) (fresh-same xs rules c i)

-- ---- where the rules of a configuration and of a group stand

sum-front : (f : ℕ → ℕ) (n : ℕ) → sum_below f (suc n) ≡ f 0 + sum_below (λ i. f (suc i)) n
sum-front f zero = omega arith
sum-front f (suc n) = let before = sum-front f n in omega arith

-- how many claims the configurations before one have
abbrev pub claims_before : List ConfigurationData → ℕ → ℕ
claims_before xs = sum_below (λ c. claim_count (configuration_at xs c))

-- how many claims the groups before one have
abbrev pub group_claims_before : List (List ConfigurationData) → ℕ → ℕ
group_claims_before groups = sum_below (λ g. claim_counts (slice_index_or groups g []))

all-before : (xs : List ConfigurationData) → claims_before xs (length xs) ≡ claim_counts xs
all-before [] = refl
all-before (x ∷ xs) = sum-front (λ c. claim_count (configuration_at (x ∷ xs) c)) (length xs) ∙ ap (λ n. claim_count x + n) (all-before xs)

further : (rules : List (Option Rule)) (a b c : ℕ) → c ≡ a + b → drop b (drop a rules) ≡ drop c rules
further rules a b c e = drop-drop b a rules ∙ ap (λ n. drop n rules) (sym e)

written-at : (xs : List ConfigurationData) (rules : List (Option Rule)) (c : ℕ) → c < length xs
    → configuration_at (configurations_with xs rules) c ≡ configuration_with (configuration_at xs c) (drop (claims_before xs c) rules)
written-at [] rules c h = absurd (omega arith)
written-at (x ∷ xs) rules zero h = refl
written-at (x ∷ xs) rules (suc c) h = grind (arith, common_steps, sum-front, further, claims_before, (written-at xs (drop (claim_count x) rules) c (omega arith)))

group-at : (groups : List (List ConfigurationData)) (rules : List (Option Rule)) (g : ℕ) → g < length groups
    → slice_index_or (groups_with groups rules) g [] ≡ configurations_with (slice_index_or groups g []) (drop (group_claims_before groups g) rules)
group-at [] rules g h = absurd (omega arith)
group-at (xs ∷ groups) rules zero h = refl
group-at (xs ∷ groups) rules (suc g) h = grind (arith, common_steps, sum-front, slice_index_or, further, group_claims_before, (group-at groups (drop (claim_counts xs) rules) g (omega arith)))

-- ---- one configuration

unless_ok : {A : Type 0} (fault : Option PlanFault) (x y : A) → unless fault x ≡ Ok y → (fault ≡ None) × (x ≡ y)
unless_ok None x y h = (refl, ok_is x y h)
unless_ok (Some fault) x y h = absurd cc

-- the claim of a configuration that its read sets meet its write sets
abbrev meets-placed : ℕ → ℕ → List ConfigurationData → PlacedClaim
meets-placed g c xs = record { group = g; configuration = c; step = false; claim = meets_claim (configuration_at xs c) }

-- the claim of its step from a parent
abbrev step-placed : ℕ → ℕ → List ConfigurationData → ℕ → PlacedClaim
step-placed g c xs p = record { group = g; configuration = c; step = true; claim = step_claim xs c p }

-- its claims, where this is its parent
abbrev claims-by : ℕ → ℕ → List ConfigurationData → Option ℕ → List PlacedClaim
claims-by g c xs q = meets-placed g c xs ∷ by_parent q [] (λ p. step-placed g c xs p ∷ [])

claims-counted : (g c : ℕ) (xs : List ConfigurationData) → length (claims_at g xs c) ≡ claim_count (configuration_at xs c)
claims-counted g c xs = grind (arith, common_steps)

configuration-counted : (g : ℕ) (xs : List ConfigurationData) (c : ℕ) (ys : List PlacedClaim) → configuration_claims g xs c ≡ Ok ys → length ys ≡ claim_count (configuration_at xs c)
configuration-counted g xs c ys h = ap length (sym (unless_ok (shape_fault g xs c) (claims_at g xs c) ys h).1) ∙ claims-counted g c xs

group-counted : (g : ℕ) (xs : List ConfigurationData) (ys : List PlacedClaim) → group_claims g xs ≡ Ok ys → length ys ≡ claim_counts xs
group-counted g xs ys h = below_counted (configuration_claims g xs) (λ c. claim_count (configuration_at xs c)) (configuration-counted g xs) (length xs) ys h ∙ all-before xs

first-shown : (claim : PlacedClaim) (rest : List PlacedClaim) (rules : List (Option Rule)) → AreShown (claim ∷ rest) rules → IsShown (certificate_at rules 0) claim.claim
first-shown claim rest [] h = absurd h
first-shown claim rest (rule ∷ rules) h = h.0

second-shown : (first second : PlacedClaim) (rules : List (Option Rule)) → AreShown (first ∷ second ∷ []) rules → IsShown (certificate_at rules 1) second.claim
second-shown first second [] h = absurd h
second-shown first second (rule ∷ []) h = absurd h.1
second-shown first second (rule ∷ other ∷ rules) h = h.1.0

-- the step of a configuration that is written with these rules
step-shown : (g c : ℕ) (xs : List ConfigurationData) (rules here : List (Option Rule)) (q : Option ℕ)
    → AreShown (claims-by g c xs q) here
    → (configuration_at (configurations_with xs rules) c).step ≡ by_parent q None (λ p. certificate_at here 1)
    → IsStepShown q (configurations_with xs rules) c
step-shown g c xs rules here None shown is = tt
step-shown g c xs rules here (Some p) shown is = grind (arith, common_steps, second-shown, meets-placed, step-placed, step-same)

certified-at : (g c : ℕ) (xs : List ConfigurationData) (rules : List (Option Rule)) (ys : List PlacedClaim) → c < length xs → configuration_claims g xs c ≡ Ok ys → AreShown ys (drop (claims_before xs c) rules)
    → IsCertifiedAt (configurations_with xs rules) c
certified-at g c xs rules ys below has shown =
    let group = configurations_with xs rules in
    let here = drop (claims_before xs c) rules in
    let parts = unless_ok (shape_fault g xs c) (claims_at g xs c) ys has in
    let shape = passes (is_good_parent c (configuration_at xs c).parent) (BadParent g c) (reuse_fault g xs c) parts.0 in
    let claims : AreShown (claims_at g xs c) here = subst (λ (zs : List PlacedClaim). AreShown zs here) (sym parts.1) shown in
    let is : configuration_at group c ≡ configuration_with (configuration_at xs c) here = written-at xs rules c below in
    let meets : IsShown (certificate_at here 0) (meets_claim (configuration_at xs c)) = first-shown (meets-placed g c xs) (by_parent (configuration_at xs c).parent [] (λ p. step-placed g c xs p ∷ [])) here claims in
    let step : IsStepShown (configuration_at xs c).parent group c = step-shown g c xs rules here (configuration_at xs c).parent claims (ap (λ (x : ConfigurationData). x.step) is) in
    record {
      parent = subst (λ (q : Option ℕ). is_good_parent c q ≡ true) (sym (parent-same xs rules c)) shape.0;
      unused = (reuse_is_found.none g c group).0 (ap (λ s. reused_member g c (slice_get (listed s) 0)) (reused-same xs rules c) ∙ shape.1);
      meets = subst (λ (x : ConfigurationData). IsShown x.meets (meets_claim x)) (sym is) meets;
      step = subst (λ (q : Option ℕ). IsStepShown q group c) (sym (parent-same xs rules c)) step;
    }

-- ---- the plan

-- a plan whose claims are all shown is certified, once it is written with the rules that show them
pub certifies : (plan : PlanData) (claims : List PlacedClaim) (rules : List (Option Rule)) → claims_in plan ≡ Ok claims → AreShown claims rules → IsCertifiedPlan (with_certificates plan rules)
unfolding claims_in
certifies plan claims rules has shown g c there below =
    let groups = plan.groups in
    let xs = slice_index_or groups g [] in
    let is_there : g < length groups = subst (λ n. g < n) (length-groups groups rules) there in
    let left = drop (group_claims_before groups g) rules in
    let is : slice_index_or (groups_with groups rules) g [] ≡ configurations_with xs left = group-at groups rules g is_there in
    let is_below : c < length xs = subst (λ n. c < n) (ap length is ∙ length-written xs left) below in
    let group = below_shown (λ k. group_claims k (slice_index_or groups k [])) (λ k. claim_counts (slice_index_or groups k [])) (λ k ys. group-counted k (slice_index_or groups k []) ys) (length groups) claims rules has shown g is_there in
    let at = below_shown (configuration_claims g xs) (λ k. claim_count (configuration_at xs k)) (configuration-counted g xs) (length xs) group.0 left group.1 group.2 c is_below in
    subst (λ (ys : List ConfigurationData). IsCertifiedAt ys c) (sym is) (certified-at g c xs left at.0 is_below at.1 at.2)
