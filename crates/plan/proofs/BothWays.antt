-- A plan has no fault exactly where it is certified.
use Rattle.std.proofs.Common.{◌≡◌, ℕ, zero, suc, ◌<◌, List, refl, ap, arith, Bool, true, Option, Some, None}
use Rattle.refutation.specs.Common.{Rule}
use Rattle.quorum_checker.specs.Refutes.{State, Refutes}
use Rattle.quorum_checker.specs.FirstFault.{first_fault}
use Rattle.plan.specs.declared.fault.PlanFault.{PlanFault}
use Rattle.plan.specs.PlanData.{ConfigurationData, PlanData, group_at, configuration_at, by_parent}
use Rattle.plan.specs.PlanFaults.{or_then, first_below, parent_fault, reuse_fault, certificate_fault, claim_fault, step_claim, meets_fault, step_fault, shape_fault, configuration_fault, plan_fault}
use Rattle.plan.specs.Certified.{IsShown, IsStepShown, IsCertifiedAt, IsCertifiedPlan}
use Rattle.plan.proofs.KeepsClaims.{neither, no-fault, passes, no-certificate_fault}
use Rattle.plan.proofs.Reused.{reuse_is_found}
use Rattle.std.proofs.lemmas.Grind.{common_steps}
use Rattle.std.proofs.Common.{rules}

none-below : (n : ℕ) (f : ℕ → Option PlanFault) → ((i : ℕ) → i < n → f i ≡ None) → first_below n f ≡ None
none-below zero f h = refl
none-below (suc n) f h = λ j. or_then (none-below n f (λ i l. h i (omega arith)) j) (h n (omega arith) j)

module _ (refutes : (rule : Rule) (state : State) → first_fault rule state ≡ None → Refutes rule state) (accepted : (rule : Rule) (state : State) → Refutes rule state → first_fault rule state ≡ None) where
  shown : (g c : ℕ) (step : Bool) (certificate : Option Rule) (claim : State) → claim_fault g c step certificate claim ≡ None → IsShown certificate claim
  shown g c step None claim h = absurd cc
  shown g c step (Some rule) claim h = refutes rule claim (no-certificate_fault g c step (first_fault rule claim) h)

  faultless : (g c : ℕ) (step : Bool) (certificate : Option Rule) (claim : State) → IsShown certificate claim → claim_fault g c step certificate claim ≡ None
  faultless g c step None claim h = absurd h
  faultless g c step (Some rule) claim h = ap (certificate_fault g c step) (accepted rule claim h)

  step-shown : (g c : ℕ) (group : List ConfigurationData) (parent : Option ℕ) → by_parent parent None (λ p. claim_fault g c true (configuration_at group c).step (step_claim group c p)) ≡ None → IsStepShown parent group c
  step-shown g c group None h = tt
  step-shown g c group (Some p) h = shown g c true (configuration_at group c).step (step_claim group c p) h

  step-faultless : (g c : ℕ) (group : List ConfigurationData) (parent : Option ℕ) → IsStepShown parent group c → by_parent parent None (λ p. claim_fault g c true (configuration_at group c).step (step_claim group c p)) ≡ None
  step-faultless g c group None h = refl
  step-faultless g c group (Some p) h = faultless g c true (configuration_at group c).step (step_claim group c p) h

  pub certified : (plan : PlanData) → plan_fault plan ≡ None → IsCertifiedPlan plan
  certified plan h g c there below =
      let group : List ConfigurationData = group_at plan g in
      let whole = neither (shape_fault g group c) (or_then (meets_fault g group c) (step_fault g group c)) (no-fault plan g c h there below) in
      let shape = neither (parent_fault g group c) (reuse_fault g group c) whole.0 in
      let claims = neither (meets_fault g group c) (step_fault g group c) whole.1 in
      search (rules, passes, reuse_is_found, shown, step-shown)

  no-fault-at : (g c : ℕ) (group : List ConfigurationData) → IsCertifiedAt group c → configuration_fault g group c ≡ None
  no-fault-at g c group at = search (rules, None, Some, reuse_is_found, faultless, step-faultless)

  pub fault_free : (plan : PlanData) → IsCertifiedPlan plan → plan_fault plan ≡ None
  unfolding plan_fault
  fault_free plan certified = grind (arith, common_steps, none-below, no-fault-at, certified)
