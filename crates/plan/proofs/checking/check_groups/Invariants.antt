use Rattle.std.proofs.Common.{◌≡◌, None, map, slice_index_or, []}
use Rattle.plan.specs.Plan.{group_data}
use Rattle.plan.specs.PlanFaults.{first_below, group_fault}
use Rattle.plan.proofs.checking.check_groups.Given as goal

abbrev pub invariant-loop-group : goal.invariant-loop-group
invariant-loop-group l = first_below l.group (λ g. group_fault g (slice_index_or (map group_data l.groups) g [])) ≡ None
