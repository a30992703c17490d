use Rattle.std.proofs.Common.{◌≤◌, ◌-◌, vec_len}
use Rattle.drivers.proofs.assignments.assignments.Given as goal

abbrev pub invariant-loop-step : goal.invariant-loop-step
invariant-loop-step l = vec_len l.made ≤ l.orders

abbrev pub invariant-loop-made : goal.invariant-loop-made
invariant-loop-made l = vec_len l.made ≤ l.orders

abbrev pub decreases-loop-made : goal.decreases-loop-made
decreases-loop-made l = l.orders - vec_len l.made
