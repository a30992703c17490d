use Rattle.std.proofs.Common.{◌≡◌, ◌<◌, ℕ, map}
use Rattle.plan.specs.Common.{plan_data, group_at}
use Rattle.plan_edit.specs.Drafts.{draft_data, uncertified}
use Rattle.plan_edit.specs.Edited.{extended}
use Rattle.plan_edit.proofs.comparing.extends.Given as goal

-- the groups so far are as they are to be
abbrev pub invariant-loop-g : goal.invariant-loop-g
invariant-loop-g l =
    (g : ℕ) → g < l.g → map uncertified (group_at (plan_data l.new) g) ≡ extended l.group (map draft_data l.drafts) (plan_data l.old) g
