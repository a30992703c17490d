-- The answers of workers, and their places.
use Rattle.std.specs.Prelude.{◌≡◌, ℕ, All, List, Vec, length, Option, Some, slice_get}
use Rattle.std.specs.declared.alloc.Global.{Global}
use Rattle.refutation.specs.declared.certificate.Certificate.{Certificate}
use Rattle.plan.specs.Common.{PlacedClaim}
use Rattle.cert_search.specs.Answers.{rule_in, IsAnswer}
use Rattle.cert_search.specs.Hands.{HasEnded}
use Rattle.cert_search.specs.declared.hand.Hand.{Hand}
use Rattle.cert_search.specs.declared.working.Found.{Found}
use Rattle.cert_search.specs.declared.working.Worked.{Worked}

-- the answer is one to the claim with its number
abbrev pub IsFound : ℕ → List PlacedClaim → Found → Type 0
IsFound budget claims found = (c : PlacedClaim) → slice_get claims found.claim ≡ Some c → IsAnswer budget c.claim
    (rule_in found.answer)

-- the answers of a worker
pub record IsWork (budget : ℕ) (claims : List PlacedClaim) (founds : Vec Found Global) : Type 0 where
  pub each : All (IsFound budget claims) founds.items

-- the answers of a worker, and its hand at the end; first is the hand at the beginning
pub record IsWorked (budget : ℕ) (claims : List PlacedClaim) (first : Hand) (worked : Worked) : Type 0 where
  pub found : IsWork budget claims worked.founds
  pub hand : HasEnded first worked.hand

-- the same for all workers
pub record AreWorked (budget : ℕ) (claims : List PlacedClaim) (hands : List Hand) (works : List Worked) : Type 0 where
  pub as_many : length works ≡ length hands
  pub each : (i : ℕ) (h : Hand) (w : Worked) → slice_get hands i ≡ Some h → slice_get works i ≡ Some w → IsWorked budget
      claims h w

-- a place for each claim, which is empty or has an answer to the claim
pub record ArePlaces (budget : ℕ) (claims : List PlacedClaim) (places : List (Option (Option (Certificate Global)))) :
    Type 0 where
  pub as_many : length places ≡ length claims
  pub each : (i : ℕ) (c : PlacedClaim) (answer : Option (Certificate Global)) → slice_get claims i ≡ Some c
      → slice_get places i ≡ Some (Some answer) → IsAnswer budget c.claim (rule_in answer)
