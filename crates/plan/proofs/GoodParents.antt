-- Where a plan has claims, its parents are good.
use Rattle.std.proofs.Common.{◌≡◌, ℕ, zero, suc, ◌+◌, ◌<◌, ◌∙◌, List, [], ◌∷◌, ◌++◌, length, ap, subst, arith, add-zero, inl, inr, true, Result, Ok, slice_index_or}
use Rattle.std.proofs.lemmas.Bool.{cases_lt}
use Rattle.plan.specs.declared.fault.PlanFault.{PlanFault}
use Rattle.plan.specs.PlanData.{ConfigurationData, PlanData, configuration_at}
use Rattle.plan.specs.PlanFaults.{is_good_parent}
use Rattle.plan.specs.PlanText.{◌>=>◌}
use Rattle.plan.specs.PlanClaims.{PlacedClaim, unless, configuration_claims, claims_below, group_claims, claims_in}
use Rattle.plan.proofs.Reread.{then_ok}
use Rattle.plan.proofs.RereadPlan.{GoodFrom, AllGood}
use Rattle.std.proofs.lemmas.Grind.{common_steps}

-- each number below the bound has claims, where all together have some
claims-each : (n i : ℕ) (f : ℕ → Result (List PlacedClaim) PlanFault) (cs : List PlacedClaim) → i < n → claims_below n f ≡ Ok cs → (ds : List PlacedClaim) × (f i ≡ Ok ds)
claims-each zero i f cs h is = absurd (omega arith)
claims-each (suc n) i f cs h is =
    let before = then_ok (claims_below n f) (λ before. f n >=> λ here. Ok (before ++ here)) cs is in
    let here = then_ok (f n) (λ here. Ok (before.0 ++ here)) cs before.2 in
    elim (cases_lt i n) [
      | inl below ↦ claims-each n i f before.0 below before.1
      | inr past ↦ (let same : i ≡ n = omega arith in (here.0, ap f same ∙ here.1))
    ]

parent-good : (g c : ℕ) (group : List ConfigurationData) (cs : List PlacedClaim) → configuration_claims g group c ≡ Ok cs → is_good_parent c (configuration_at group c).parent ≡ true
parent-good g c group cs h = grind (arith, common_steps)

good-from : (c : ℕ) (xs : List ConfigurationData) → ((k : ℕ) → k < length xs → is_good_parent (c + k) (configuration_at xs k).parent ≡ true) → GoodFrom c xs
good-from c [] h = tt
good-from c (x ∷ xs) h = (
  subst (λ n. is_good_parent n x.parent ≡ true) (add-zero c) (h 0 (omega arith)),
  good-from (c + 1) xs (λ k below. subst (λ n. is_good_parent n (configuration_at xs k).parent ≡ true) (omega arith) (h (suc k) (omega arith))),
)

group-good : (g : ℕ) (group : List ConfigurationData) (cs : List PlacedClaim) → group_claims g group ≡ Ok cs → GoodFrom 0 group
group-good g group cs h =
    good-from 0 group (λ k below.
    let one = claims-each (length group) k (configuration_claims g group) cs below h in
    subst (λ n. is_good_parent n (configuration_at group k).parent ≡ true) (omega arith) (parent-good g k group one.0 one.1))

all-good : (groups : List (List ConfigurationData)) → ((g : ℕ) → g < length groups → GoodFrom 0 (slice_index_or groups g [])) → AllGood groups
all-good [] h = tt
all-good (xs ∷ groups) h = (h 0 (omega arith), all-good groups (λ g below. h (suc g) (omega arith)))

pub parents-good : (plan : PlanData) (cs : List PlacedClaim) → claims_in plan ≡ Ok cs → AllGood plan.groups
unfolding claims_in
parents-good plan cs h =
    all-good plan.groups (λ g below.
    let one = claims-each (length plan.groups) g (λ g. group_claims g (slice_index_or plan.groups g [])) cs below h in
    group-good g (slice_index_or plan.groups g []) one.0 one.1)
