use Rattle.std.proofs.Common.{◌≡◌, ◌+◌, map, length}
use Rattle.serde_json.specs.Events.{items_len}
use Rattle.plan.specs.Plan.{group_data}
use Rattle.plan.specs.PlanText.{groups_in}
use Rattle.plan.proofs.Loop.{with_front}
use Rattle.plan.proofs.reading.groups.Given as goal

abbrev pub invariant-loop-value : goal.invariant-loop-value
invariant-loop-value g l = record {
  read : with_front (map group_data l.groups.items) (groups_in l.is_weighted (length l.groups.items) (g.N.Node.left l.rest)) ≡ groups_in l.is_weighted 0 (g.N.Node.left l.initial.rest);
  counted : length l.groups.items + items_len (g.N.Node.left l.rest) ≡ items_len (g.N.Node.left l.initial.rest);
}

abbrev pub decreases-loop-value : goal.decreases-loop-value
decreases-loop-value g l = items_len (g.N.Node.left l.rest)
