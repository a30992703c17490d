use Rattle.std.proofs.Common.{◌≡◌, ◌-◌, ◌++◌, length, map}
use Rattle.volume_model.specs.Common.{each_once, listed}
use Rattle.volume_model.specs.Formula.{member}
use Rattle.quorum_expr.specs.Forms.{formulas_of, HaveWeights, weights_data}
use Rattle.quorum_expr.specs.Valid.{row_nodes}
use Rattle.quorum_expr.proofs.reading.each_member.Given as goal

abbrev pub invariant-loop-m : goal.invariant-loop-m
invariant-loop-m l = record {
  read : formulas_of l.of.items ++ map member (listed l.rest) ≡ map member (listed l.fn.members);
  weights : HaveWeights (weights_data l.weights) 0 l.of.items;
  counted : l.room ≡ l.initial.room - row_nodes (each_once (formulas_of l.of.items));
}

abbrev pub decreases-loop-m : goal.decreases-loop-m
decreases-loop-m l = length (listed l.rest)
