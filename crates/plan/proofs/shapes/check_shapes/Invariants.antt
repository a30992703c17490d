use Rattle.std.proofs.Common.{map, slice_index_or, [], IsOk}
use Rattle.plan.specs.Plan.{group_data}
use Rattle.plan.specs.PlanClaims.{claims_below, group_claims}
use Rattle.plan.proofs.shapes.check_shapes.Given as goal

-- the groups so far have claims
abbrev pub invariant-loop-group : goal.invariant-loop-group
invariant-loop-group l = IsOk (claims_below l.group (λ g. group_claims g (slice_index_or (map group_data l.groups) g [])))
