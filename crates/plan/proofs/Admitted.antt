-- Which configurations have claims, one after the other.
use Rattle.std.proofs.Common.{◌≡◌, ◌≢◌, ℕ, ◌+◌, ◌<◌, List, refl, sym, true≢false, true, false, Result, Ok, Err, IsOk}
use Rattle.volume_model.specs.declared.fault.Fault.TheVariants.{NoMemory}
use Rattle.plan.specs.declared.fault.PlanFault.{PlanFault}
use Rattle.plan.specs.FaultKinds.{kind_of}
use Rattle.plan.specs.PlanClaims.{PlacedClaim, claims_below}
use Rattle.plan.proofs.Listed.{claims-fault}
use Rattle.std.proofs.lemmas.Grind.{common_steps}
use Rattle.std.proofs.Common.{arith}

off : false ≡ true → ⊥
off h = absurd (true≢false (sym h))

-- the value that there is
ok-of : {A : Type 0} (r : Result A PlanFault) → IsOk r → (x : A) × (r ≡ Ok x)
ok-of (Ok x) h = (x, refl)
ok-of (Err e) h = absurd (off h)

-- claims of one more
pub has-more : (i : ℕ) (f : ℕ → Result (List PlacedClaim) PlanFault) → IsOk (claims_below i f) → IsOk (f i) → IsOk (claims_below (i + 1) f)
has-more i f before here = grind (arith, common_steps)

-- the fault of a number below the bound, where those before have claims
pub has-fault : (n i : ℕ) (f : ℕ → Result (List PlacedClaim) PlanFault) (fault : PlanFault) → i < n → IsOk (claims_below i f) → (f i ≡ Err fault) × (kind_of fault ≢ NoMemory)
    → (claims_below n f ≡ Err fault) × (kind_of fault ≢ NoMemory)
has-fault n i f fault h before here = grind (arith, common_steps, ok-of, claims-fault)
