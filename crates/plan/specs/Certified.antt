-- Certified plans, defined without the order in which faults are found.
use Rattle.std.specs.Prelude.{◌≡◌, ℕ, ◌<◌, true, List, Option, Some, None, length}
use Rattle.refutation.specs.Common.{Rule}
use Rattle.quorum_checker.specs.Refutes.{State, Refutes}
use Rattle.plan.specs.PlanData.{ConfigurationData, PlanData, group_at, configuration_at}
use Rattle.plan.specs.PlanFaults.{is_good_parent, meets_claim, step_claim}
use Rattle.plan.specs.Reused.{IsReused}

-- there is a certificate, and it refutes the claim
abbrev pub IsShown : Option Rule → State → Type 0
IsShown None claim = ⊥
IsShown (Some rule) claim = Refutes rule claim

-- the step claim, if there is a parent, has a certificate that refutes it
abbrev pub IsStepShown : Option ℕ → List ConfigurationData → ℕ → Type 0
IsStepShown None group c = Unit {0}
IsStepShown (Some p) group c = IsShown (configuration_at group c).step (step_claim group c p)

-- Configuration 0 has no parent, and each other one has a parent with a smaller number; no ancestor has a fresh member;
-- the certificates refute the meets claim and the step claim.
pub record IsCertifiedAt (group : List ConfigurationData) (c : ℕ) : Type 0 where
  pub parent : is_good_parent c (configuration_at group c).parent ≡ true
  pub unused : (x : ℕ) → IsReused group c x → ⊥
  pub meets : IsShown (configuration_at group c).meets (meets_claim (configuration_at group c))
  pub step : IsStepShown (configuration_at group c).parent group c

-- each configuration of each group is certified
abbrev pub IsCertifiedPlan : PlanData → Type 0
IsCertifiedPlan plan = (g c : ℕ) → g < length plan.groups → c < length (group_at plan g) → IsCertifiedAt
    (group_at plan g) c
