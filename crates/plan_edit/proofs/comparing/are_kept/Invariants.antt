use Rattle.std.proofs.Common.{◌≡◌, drop, map}
use Rattle.plan_edit.specs.Drafts.{bare}
use Rattle.plan_edit.proofs.comparing.are_kept.Given as goal

-- if the configurations that are left are the same, then all are
abbrev pub invariant-loop-i : goal.invariant-loop-i
invariant-loop-i l = map bare (drop l.i l.new) ≡ map bare (drop l.i l.old) → map bare l.new ≡ map bare l.old
