use Rattle.std.proofs.Common.{map, IsOk}
use Rattle.plan.specs.Plan.{configuration_data}
use Rattle.plan.specs.PlanClaims.{claims_below, configuration_claims}
use Rattle.plan.proofs.shapes.check_group.Given as goal

-- the configurations so far have claims
abbrev pub invariant-loop-configuration : goal.invariant-loop-configuration
invariant-loop-configuration l = IsOk (claims_below l.configuration (configuration_claims l.group (map configuration_data l.configurations)))
