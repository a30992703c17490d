use Rattle.std.proofs.Common.{◌≡◌, ◌+◌, ◌≤◌, drop, map}
use Rattle.json.specs.Tape.{node_token}
use Rattle.quorum_expr.specs.Placed.{passes}
use Rattle.quorum_expr.proofs.root.are_readable.Given as goal

-- the nodes so far pass
abbrev pub invariant-loop-node : goal.invariant-loop-node
invariant-loop-node l = record {
  same : passes l.left (map node_token (drop l.node-index l.nodes)) ≡ passes 127 (map node_token l.nodes);
  few : l.left ≤ 127 + l.node-index;
}
