-- When a fresh member is reused, stated with the ancestors.
use Rattle.std.specs.Prelude.{◌≡◌, ◌↔◌, ℕ, ◌<◌, ◌≤◌, true, false, List, Some, None}
use Rattle.std.specs.FinSet.{contains}
use Rattle.volume_model.specs.Common.{StandsAbove}
use Rattle.plan.specs.declared.fault.PlanFault.TheVariants.{MemberReused}
use Rattle.plan.specs.PlanData.{ConfigurationData, configuration_at, parent_at}
use Rattle.plan.specs.PlanFaults.{reuse_fault}

-- the configuration a is an ancestor of c; a parent has a smaller number than its children
abbrev pub IsAboveIn : List ConfigurationData → ℕ → ℕ → Type 0
IsAboveIn group a c = StandsAbove (λ p child. parent_at group child ≡ Some p) a c

-- the configuration has the member, its parent doesn't, and an ancestor has it
pub record IsReused (group : List ConfigurationData) (c x : ℕ) : Type 0 where
  pub member : x < 64
  pub has : contains (configuration_at group c).members x ≡ true
  pub lacked : (p : ℕ) → (configuration_at group c).parent ≡ Some p → contains (configuration_at group p).members x
      ≡ false
  pub above : (a : ℕ) × IsAboveIn group a c × (contains (configuration_at group a).members x ≡ true)

-- the least such member
pub record IsLeastReused (group : List ConfigurationData) (c x : ℕ) : Type 0 where
  pub reused : IsReused group c x
  pub least : (y : ℕ) → IsReused group c y → x ≤ y

-- The fault of a reused member is found exactly if there is one, and names the least.
pub record ReuseIsFound : Type 0 where
  pub none : (g c : ℕ) (group : List ConfigurationData) → (reuse_fault g group c ≡ None) ↔ ((x : ℕ) → IsReused group c x
      → ⊥)
  pub some : (g c x : ℕ) (group : List ConfigurationData) → (reuse_fault g group c ≡ Some (MemberReused g c x)) ↔
      IsLeastReused group c x
