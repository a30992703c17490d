use Rattle.std.proofs.Common.{◌≡◌, false, ◌&&◌, nat_lt}
use Rattle.std.specs.FinSet.{contains}
use Rattle.volume_model.specs.Common.{some_below}
use Rattle.plan.specs.PlanData.{configuration_at}
use Rattle.plan.specs.Plan.{group_data}
use Rattle.plan.proofs.configurations.Group.names.Given as goal

-- none of those before has the member
abbrev pub invariant-loop-configuration : goal.invariant-loop-configuration
invariant-loop-configuration l = some_below l.configuration-index (λ c. nat_lt l.member 64 && contains (configuration_at (group_data l.self) c).members l.member) ≡ false
