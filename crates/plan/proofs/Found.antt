-- The first fault, found step by step.
use Rattle.std.proofs.Common.{◌≡◌, ℕ, zero, suc, ◌+◌, ◌<◌, List, arith, refl, ap, ◌∙◌, sym, add-one, inl, inr, Bool, true, false, if◌then◌else◌, Option, Some, None, Result, Ok, Err}
use Rattle.std.specs.Result.{IsErrAnd}
use Rattle.std.proofs.lemmas.Bool.{cases_lt}
use Rattle.std.specs.FinSet.{empty, difference}
use Rattle.volume_model.specs.Common.{dual_of}
use Rattle.quorum_checker.specs.Refutes.{claim_state}
use Rattle.plan.specs.declared.fault.PlanFault.{PlanFault}
use Rattle.plan.specs.PlanData.{ConfigurationData, configuration_at, by_parent}
use Rattle.plan.specs.PlanFaults.{or_then, first_below, shape_fault, claim_fault, meets_claim, configuration_fault, Finds}
use Rattle.std.proofs.lemmas.Grind.{common_steps}

-- the faults of the claims of x, where its parent is q
abbrev claims : ℕ → List ConfigurationData → ℕ → ConfigurationData → Option ℕ → Option PlanFault
claims g group c x q =
    or_then (claim_fault g c false x.meets (meets_claim x))
    (by_parent q None (λ p. claim_fault g c true x.step (claim_state x.read (dual_of (configuration_at group p).read) (by_parent q empty (λ m. difference x.members (configuration_at group m).members)))))

pub step-found : (g c : ℕ) (group : List ConfigurationData) (x y : ConfigurationData) (p : ℕ) (r : Result (Unit {0}) PlanFault) → configuration_at group c ≡ x → configuration_at group p ≡ y → x.parent ≡ Some p
    → shape_fault g group c ≡ None → claim_fault g c false x.meets (meets_claim x) ≡ None
    → Finds r (claim_fault g c true x.step (claim_state x.read (dual_of y.read) (difference x.members y.members)))
    → Finds r (configuration_fault g group c)
step-found g c group x y p r here there parent shape meets found = grind (arith, common_steps)

-- a fault of the configuration's shape is its fault
pub shape-found : (g c : ℕ) (group : List ConfigurationData) (r : Result (Unit {0}) PlanFault) (fault : PlanFault) → Finds (Err fault) (shape_fault g group c) → IsErrAnd r (λ f. f ≡ fault) → Finds r (configuration_fault g group c)
shape-found g c group (Ok u) fault found h = absurd h
shape-found g c group (Err f) fault found h = λ other. ap (λ o. or_then o (claims g group c (configuration_at group c) (configuration_at group c).parent)) (found (λ out. other (h ∙ out))) ∙ ap Some (sym h)

-- and so is one of its claim, where its shape has none
pub meets-found : (g c : ℕ) (group : List ConfigurationData) (x : ConfigurationData) (r : Result (Unit {0}) PlanFault) (fault : PlanFault) → configuration_at group c ≡ x → shape_fault g group c ≡ None
    → Finds (Err fault) (claim_fault g c false x.meets (meets_claim x)) → IsErrAnd r (λ f. f ≡ fault) → Finds r (configuration_fault g group c)
meets-found g c group x (Ok u) fault here shape found h = absurd h
meets-found g c group x (Err f) fault here shape found h = grind (arith, common_steps)

-- a root without a fault of its shape and claim has none
pub root-found : (g c : ℕ) (group : List ConfigurationData) (x : ConfigurationData) → configuration_at group c ≡ x → x.parent ≡ None → shape_fault g group c ≡ None → claim_fault g c false x.meets (meets_claim x) ≡ None → configuration_fault g group c ≡ None
root-found g c group x here parent shape meets = grind (arith, common_steps)

pub none-more : (i : ℕ) (f : ℕ → Option PlanFault) → first_below i f ≡ None → f i ≡ None → first_below (i + 1) f ≡ None
none-more i f before here = ap (λ n. first_below n f) (add-one i) ∙ (λ j. or_then (before j) (here j))

found-below : (n i : ℕ) (f : ℕ → Option PlanFault) (fault : PlanFault) → i < n → first_below i f ≡ None → f i ≡ Some fault → first_below n f ≡ Some fault
found-below zero i f fault h before here = absurd (omega arith)
found-below (suc n) i f fault h before here =
    elim (cases_lt i n) [
      | inl below ↦ ap (λ o. or_then o (f n)) (found-below n i f fault below before here)
      | inr past ↦ (let same : n ≡ i = omega arith in (λ j. or_then ((ap (λ m. first_below m f) same ∙ before) j) (f n)) ∙ ap f same ∙ here)
    ]

-- the fault of a number below the bound, where those before have none
pub Finds-below : (n i : ℕ) (f : ℕ → Option PlanFault) (fault : PlanFault) → i < n → first_below i f ≡ None → Finds (Err fault) (f i) → Finds (Err fault) (first_below n f)
Finds-below n i f fault h before here = λ other. found-below n i f fault h before (here other)

pub passes : (b : Bool) (fault : PlanFault) (next : Option PlanFault) → or_then (if b then None else Some fault) next ≡ None → (b ≡ true) × (next ≡ None)
passes true fault next h = (refl, h)
passes false fault next h = absurd (cc)

-- the parent stands before the configuration
pub parent-below : (g : ℕ) (group : List ConfigurationData) (c p : ℕ) → shape_fault g group c ≡ None → (configuration_at group c).parent ≡ Some p → p < c
parent-below g group c p shape is = grind (arith, common_steps)
