-- The claims of configurations, listed one after the other.
use Rattle.std.proofs.Common.{◌≡◌, ◌≢◌, ℕ, zero, suc, ◌+◌, ◌<◌, List, [], ◌∷◌, ◌++◌, arith, ap, ◌∙◌, sym, add-one, inl, inr, true, false, Some, None, Result, Ok, Err}
use Rattle.std.proofs.lemmas.Bool.{cases_lt}
use Rattle.std.specs.FinSet.{empty, difference}
use Rattle.std.specs.Result.{IsErrAnd}
use Rattle.volume_model.specs.declared.fault.Fault.TheVariants.{NoMemory}
use Rattle.volume_model.specs.Common.{dual_of}
use Rattle.quorum_checker.specs.Refutes.{State, claim_state}
use Rattle.plan.specs.declared.fault.PlanFault.{PlanFault}
use Rattle.plan.specs.declared.fault.PlanFault.TheVariants.{Text}
use Rattle.plan.specs.PlanData.{ConfigurationData, configuration_at, by_parent}
use Rattle.plan.specs.PlanFaults.{shape_fault, meets_claim, Finds}
use Rattle.plan.specs.PlanText.{◌>=>◌, Reads}
use Rattle.plan.specs.PlanClaims.{PlacedClaim, claims_at, unless, configuration_claims, claims_below}
use Rattle.std.proofs.lemmas.Grind.{common_steps}

-- a fault of the configuration's shape is that of its claims
pub shape-refused : {X : Type 0} (view : X → List PlacedClaim) (g c : ℕ) (group : List ConfigurationData) (r : Result X PlanFault) (fault : PlanFault) → Finds (Err fault) (shape_fault g group c) → IsErrAnd r (λ f. f ≡ fault) → Reads view r (configuration_claims g group c)
shape-refused view g c group (Ok x) fault found h = absurd h
shape-refused view g c group (Err f) fault found h = λ other. ap (λ o. unless o (claims_at g group c)) (found (λ out. other (h ∙ out))) ∙ ap Err (sym h)

-- running out of memory fits each definition
pub wants : {X Y : Type 0} (view : X → Y) (r : Result X PlanFault) (defined : Result Y PlanFault) → IsErrAnd r (λ f. f ≡ Text NoMemory) → Reads view r defined
wants view (Ok x) defined h = absurd h
wants view (Err f) defined h = λ other. absurd (other h)

pub child-claims : (g c : ℕ) (group : List ConfigurationData) (x y : ConfigurationData) (p : ℕ) (meets step : State) → shape_fault g group c ≡ None → configuration_at group c ≡ x → configuration_at group p ≡ y → x.parent ≡ Some p → meets_claim x ≡ meets
    → claim_state x.read (dual_of y.read) (difference x.members y.members) ≡ step
    → configuration_claims g group c ≡ Ok (record { group = g; configuration = c; step = false; claim = meets } ∷ record { group = g; configuration = c; step = true; claim = step } ∷ [])
child-claims g c group x y p meets step shape here there parent claim stepped = grind (arith, common_steps)

pub claims-more : (i : ℕ) (f : ℕ → Result (List PlacedClaim) PlanFault) (xs ys : List PlacedClaim) → claims_below i f ≡ Ok xs → f i ≡ Ok ys → claims_below (i + 1) f ≡ Ok (xs ++ ys)
claims-more i f xs ys before here = ap (λ n. claims_below n f) (add-one i) ∙ (λ j. before j >=> λ b. here j >=> λ h. Ok (b ++ h))

pub claims-fault : (n i : ℕ) (f : ℕ → Result (List PlacedClaim) PlanFault) (xs : List PlacedClaim) (fault : PlanFault) → i < n → claims_below i f ≡ Ok xs → f i ≡ Err fault → claims_below n f ≡ Err fault
claims-fault zero i f xs fault h before here = absurd (omega arith)
claims-fault (suc n) i f xs fault h before here =
    elim (cases_lt i n) [
      | inl below ↦ ap (λ r. r >=> λ b. f n >=> λ k. Ok (b ++ k)) (claims-fault n i f xs fault below before here)
      | inr past ↦ grind (arith, common_steps)
    ]

-- the fault of a number below the bound, where those before have none
pub Reads-below : (n i : ℕ) (f : ℕ → Result (List PlacedClaim) PlanFault) (xs : List PlacedClaim) (fault : PlanFault) → i < n → claims_below i f ≡ Ok xs → (fault ≢ Text NoMemory → f i ≡ Err fault) → fault ≢ Text NoMemory → claims_below n f ≡ Err fault
Reads-below n i f xs fault h before here other = claims-fault n i f xs fault h before (here other)

-- a list of two that were pushed
pub two-pushed : {A : Type 0} {xs ys zs : List A} {a b : A} → xs ≡ [] → ys ≡ xs ++ a ∷ [] → zs ≡ ys ++ b ∷ [] → zs ≡ a ∷ b ∷ []
two-pushed {A} {xs} {ys} {zs} {a} {b} none one two = two ∙ ap (λ l. l ++ b ∷ []) (one ∙ ap (λ l. l ++ a ∷ []) none)
