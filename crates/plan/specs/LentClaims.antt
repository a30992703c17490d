-- The states of the claims that a plan lends.
use Rattle.std.specs.Prelude.{List, Option, Some, None, is_some, map}
use Rattle.std.specs.Borrow.{Bor}
use Rattle.std.specs.FinSet.{difference}
use Rattle.volume_model.specs.Common.{dual_of}
use Rattle.quorum_expr.specs.Common.{formula_of}
use Rattle.quorum_checker.specs.Refutes.{State, claim_state}
use Rattle.plan.specs.declared.configurations.Configuration.{Configuration}
use Rattle.plan.specs.declared.lent.ClaimRef.{ClaimRef}
use Rattle.plan.specs.Plan.{configuration_data}
use Rattle.plan.specs.PlanFaults.{meets_claim}
use Rattle.plan.specs.PlanClaims.{PlacedClaim}

-- the meets claim of this configuration, or its step claim if there is a parent
abbrev pub state_from : Configuration → Option (Bor Configuration) → State
state_from this None = meets_claim (configuration_data this)
state_from this (Some parent) = claim_state (formula_of this.read) (dual_of (formula_of parent.now.read))
    (difference this.members parent.now.members)

abbrev pub lent_state : ClaimRef → State
lent_state c = state_from c.this.now c.parent

abbrev pub lent_placed : ClaimRef → PlacedClaim
lent_placed c = record {
  group = c.group;
  configuration = c.configuration;
  step = is_some c.parent;
  claim = lent_state
      c;
}

abbrev pub all_lent : List ClaimRef → List PlacedClaim
all_lent = map lent_placed
