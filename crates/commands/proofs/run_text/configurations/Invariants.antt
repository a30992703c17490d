use Rattle.std.proofs.Common.{◌≡◌, ◌≤◌, ◌*◌}
use Rattle.plan.specs.Common.{checked_model, sum_below}
use Rattle.commands.proofs.run_text.configurations.Given as goal

abbrev pub invariant-loop-group : goal.invariant-loop-group
invariant-loop-group l = (l.count ≡ sum_below (checked_model l.plan).configurations l.group) × (l.count ≤ 255 * l.group)
