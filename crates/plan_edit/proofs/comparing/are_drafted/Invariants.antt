use Rattle.std.proofs.Common.{◌≡◌, drop, map}
use Rattle.plan_edit.specs.Drafts.{bare, draft_data}
use Rattle.plan_edit.proofs.comparing.are_drafted.Given as goal

-- if the configurations that are left are the drafts, then all are
abbrev pub invariant-loop-i : goal.invariant-loop-i
invariant-loop-i l = map bare (drop l.i l.new) ≡ map draft_data (drop l.i l.drafts) → map bare l.new ≡ map draft_data l.drafts
