-- The claims of a plan.
use Rattle.std.specs.Prelude.{ℕ, zero, suc, Bool, true, false, List, [], ◌∷◌, ◌++◌, length, Option, Some, None, Result, Ok, Err, slice_index_or}
use Rattle.quorum_checker.specs.Refutes.{State}
use Rattle.plan.specs.declared.fault.PlanFault.{PlanFault}
use Rattle.plan.specs.PlanData.{ConfigurationData, PlanData, configuration_at, by_parent}
use Rattle.plan.specs.PlanFaults.{shape_fault, meets_claim, step_claim}
use Rattle.plan.specs.PlanText.{◌>=>◌}

-- A claim and its place.
pub record PlacedClaim : Type 0 where
  pub group : ℕ
  pub configuration : ℕ
  pub step : Bool
  pub claim : State

-- the claims of a configuration: meets, and step if it has a parent
abbrev pub claims_at : ℕ → List ConfigurationData → ℕ → List PlacedClaim
claims_at g group c =
    record { group = g; configuration = c; step = false; claim = meets_claim (configuration_at group c) }
    ∷ by_parent (configuration_at group c).parent [] (λ p. record {
      group = g;
      configuration = c;
      step = true;
      claim =
          step_claim group c p;
    } ∷ [])

-- the value if there is no fault, else the fault
abbrev pub unless : {A : Type 0} → Option PlanFault → A → Result A PlanFault
unless None x = Ok x
unless (Some fault) x = Err fault

abbrev pub configuration_claims : ℕ → List ConfigurationData → ℕ → Result (List PlacedClaim) PlanFault
configuration_claims g group c = unless (shape_fault g group c) (claims_at g group c)

-- the claims of the numbers below a bound, in growing order, up to the first fault
abbrev pub claims_below : ℕ → (ℕ → Result (List PlacedClaim) PlanFault) → Result (List PlacedClaim) PlanFault
claims_below zero claims_of = Ok []
claims_below (suc n) claims_of = claims_below n claims_of >=> λ before. claims_of n >=> λ here. Ok (before ++ here)

abbrev pub group_claims : ℕ → List ConfigurationData → Result (List PlacedClaim) PlanFault
group_claims g group = claims_below (length group) (configuration_claims g group)

abbrev pub claims_of_groups : List (List ConfigurationData) → Result (List PlacedClaim) PlanFault
claims_of_groups groups = claims_below (length groups) (λ g. group_claims g (slice_index_or groups g []))

-- The claims of a plan in order of group and configuration, or its first fault of a parent or of fresh members.
unfoldable pub claims_in : PlanData → Result (List PlacedClaim) PlanFault
claims_in plan = claims_of_groups plan.groups
