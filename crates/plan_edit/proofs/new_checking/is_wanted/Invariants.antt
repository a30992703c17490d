use Rattle.std.proofs.Common.{◌<◌, ℕ}
use Rattle.plan.specs.Common.{plan_data, group_at}
use Rattle.plan_edit.specs.NewPlans.{HasRoot}
use Rattle.plan_edit.proofs.new_checking.is_wanted.Given as goal

-- the groups so far are as they are to be
abbrev pub invariant-loop-g : goal.invariant-loop-g
invariant-loop-g l = (g : ℕ) → g < l.g → HasRoot l.words (group_at (plan_data l.new) g)
