use Rattle.std.proofs.Common.{◌≡◌, ◌+◌}
use Rattle.serde_json.specs.Events.{items_len}
use Rattle.quorum_expr.proofs.counting.count_items.Given as goal

abbrev pub invariant-loop-number : goal.invariant-loop-number
invariant-loop-number g l = record {
  same : l.count ≡ l.number;
  total : l.number + items_len (g.N.Node.left l.rest) ≡ items_len (g.N.Node.left l.initial.rest);
}
