use Rattle.std.proofs.Common.{◌≡◌, None, map}
use Rattle.plan.specs.Plan.{configuration_data}
use Rattle.plan.specs.PlanFaults.{first_below, configuration_fault}
use Rattle.plan.proofs.checking.check_group.Given as goal

abbrev pub invariant-loop-configuration : goal.invariant-loop-configuration
invariant-loop-configuration l = first_below l.configuration (configuration_fault l.group (map configuration_data l.configurations)) ≡ None
