use Rattle.std.proofs.Common.{◌≡◌, ◌+◌, map, length}
use Rattle.serde_json.specs.Events.{items_len}
use Rattle.plan.specs.Plan.{configuration_data}
use Rattle.plan.specs.PlanText.{configurations_in}
use Rattle.plan.proofs.Loop.{with_front}
use Rattle.plan.proofs.reading.configurations.Given as goal

abbrev pub invariant-loop-value : goal.invariant-loop-value
invariant-loop-value g l = record {
  read : with_front (map configuration_data l.configurations.items) (configurations_in l.is_weighted l.group (length l.configurations.items) (g.N.Node.left l.rest)) ≡ configurations_in l.is_weighted l.group 0 (g.N.Node.left l.initial.rest);
  counted : length l.configurations.items + items_len (g.N.Node.left l.rest) ≡ items_len (g.N.Node.left l.initial.rest);
}

abbrev pub decreases-loop-value : goal.decreases-loop-value
decreases-loop-value g l = items_len (g.N.Node.left l.rest)
