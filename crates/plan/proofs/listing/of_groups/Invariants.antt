use Rattle.std.proofs.Common.{◌≡◌, Ok, map, slice_index_or, []}
use Rattle.plan.specs.Plan.{group_data}
use Rattle.plan.specs.LentClaims.{all_lent}
use Rattle.plan.specs.PlanClaims.{claims_below, group_claims}
use Rattle.plan.proofs.listing.of_groups.Given as goal

abbrev pub invariant-loop-group : goal.invariant-loop-group
invariant-loop-group l = claims_below l.group (λ g. group_claims g (slice_index_or (map group_data l.groups) g [])) ≡ Ok (all_lent l.list.items)
