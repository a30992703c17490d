use Rattle.std.proofs.Common.{◌≡◌, Ok, map}
use Rattle.plan.specs.Plan.{configuration_data}
use Rattle.plan.specs.LentClaims.{all_lent}
use Rattle.plan.specs.PlanClaims.{claims_below, configuration_claims}
use Rattle.plan.proofs.listing.of_group.Given as goal

abbrev pub invariant-loop-configuration : goal.invariant-loop-configuration
invariant-loop-configuration l = claims_below l.configuration (configuration_claims l.group (map configuration_data l.configurations)) ≡ Ok (all_lent l.list.items)
