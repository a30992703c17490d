use Rattle.std.proofs.Common.{◌≡◌, ◌≤◌}
use Rattle.std.specs.FinSet.{empty}
use Rattle.serde_json.specs.Events.{items_len}
use Rattle.plan.specs.PlanText.{members_from}
use Rattle.plan.proofs.reading.members.Given as goal

-- what the items that are left add to the members so far
abbrev pub invariant-loop-value : goal.invariant-loop-value
invariant-loop-value g l = record {
  read : members_from l.least l.set (g.N.Node.left l.rest) ≡ members_from 0 empty (g.N.Node.left l.initial.rest);
  few : l.least ≤ 64;
}

abbrev pub decreases-loop-value : goal.decreases-loop-value
decreases-loop-value g l = items_len (g.N.Node.left l.rest)
