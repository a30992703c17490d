use Rattle.std.proofs.Common.{◌≡◌, ◌+◌, ◌-◌, ◌*◌}
use Rattle.serde_json.specs.Events.{items_len}
use Rattle.volume_model.specs.Common.{each_once}
use Rattle.quorum_expr.specs.Valid.{row_nodes}
use Rattle.quorum_expr.specs.Forms.{formulas_of, HaveWeights, weights_data}
use Rattle.quorum_expr.specs.Reading.{each_of, formula_at}
use Rattle.quorum_expr.proofs.Loop.{with_front}
use Rattle.quorum_expr.proofs.reading.+tree.Given as goal

abbrev pub decreases-child_trees : goal.decreases-child_trees
decreases-child_trees g l = 3 * l.left + 1

abbrev pub decreases-tree : goal.decreases-tree
decreases-tree g l = 3 * l.left

abbrev pub decreases-tree_of_form : goal.decreases-tree_of_form
decreases-tree_of_form g l = 3 * l.left + 2

abbrev pub invariant-child_trees-children : goal.invariant-child_trees-children
invariant-child_trees-children g l =
    let read = formula_at l.lists l.left in
    record {
      read : with_front (formulas_of l.of.items) (each_of read (g.N.Node.left l.rest)) ≡ each_of read (g.N.Node.left l.initial.rest);
      weights : HaveWeights (weights_data l.weights) 0 l.of.items;
      counted : l.room ≡ l.initial.room - row_nodes (each_once (formulas_of l.of.items));
    }

abbrev pub decreases-child_trees-children : goal.decreases-child_trees-children
decreases-child_trees-children g l = items_len (g.N.Node.left l.rest)
