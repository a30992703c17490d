use Rattle.std.proofs.Common.{◌≡◌, ◌-◌, drop}
use Rattle.quorum_expr.specs.Expr.{formula_of, weighed}
use Rattle.quorum_expr.specs.Valid.{row_fault, row_nodes}
use Rattle.quorum_expr.proofs.validity.+fault_within.Given as goal

-- how many levels are allowed
abbrev pub decreases-fault_within : goal.decreases-fault_within
decreases-fault_within g l = l.levels

-- the fault and the nodes of the children that are left make those of all
abbrev pub invariant-loop-child : goal.invariant-loop-child
invariant-loop-child g l = record {
  fault : row_fault (weighed formula_of (drop l.child-index l.child-items)) (l.levels - 1) ≡ row_fault (weighed formula_of l.child-items) (l.levels - 1);
  counted : l.room - row_nodes (weighed formula_of (drop l.child-index l.child-items)) ≡ l.initial.room - row_nodes (weighed formula_of l.child-items);
}
