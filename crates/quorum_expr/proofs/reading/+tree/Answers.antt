use Rattle.std.proofs.Common.{◌-◌, refl, Ok, arith, rules}
use Rattle.std.proofs.lemmas.Grind.{common_steps}
use Rattle.std.proofs.lemmas.Result.{err_from_is_err_and}
use Rattle.quorum_expr.specs.Forms.{weights_data, form_data}
use Rattle.quorum_expr.proofs.MemberLists.{pushed_nodes}
use Rattle.quorum_expr.proofs.Rows.{weights_pushed, choice_read, nodes-weighing}
use Rattle.quorum_expr.proofs.Levels.{too_deep, one_level, no_form, some_level}
use Rattle.quorum_expr.proofs.reading.+tree.Goals as goal

pub tree-returns-in_err-form-clause-read : goal.tree-returns-in_err-form-clause-read
tree-returns-in_err-form-clause-read g t c = grind (arith, common_steps, c.from_residual.ensures.1, c.in_err-form.ensures, err_from_is_err_and, no_form)

pub tree-returns-then-left-eq0-clause-read : goal.tree-returns-then-left-eq0-clause-read
tree-returns-then-left-eq0-clause-read g t c = too_deep _ _ _ (form_data g.N.Node.means c.in_ok-form.form) (omega arith) c.in_ok-form.ensures

pub tree-returns-clause-read : goal.tree-returns-clause-read
tree-returns-clause-read g t c = rw (one_level _ c.args.left (c.args.left - 1) _ (form_data g.N.Node.means c.in_ok-form.form) (omega arith) c.in_ok-form.ensures) c.tree_of_form.ensures.read

pub child_trees-children-preserved : goal.child_trees-children-preserved
child_trees-children-preserved g t c = grind (arith, common_steps, c.in-Some-next.ensures, c.in_ok-push-in-Each.ensures.items, c.at-weight.ensures, c.children.invariant.weights, c.children.invariant.counted, c.in_ok-tree-in-Each.ensures.counted, weights_pushed, pushed_nodes)

pub child_trees-returns-else-left-eq0-clause-read : goal.child_trees-returns-else-left-eq0-clause-read
child_trees-returns-else-left-eq0-clause-read g t c = grind (arith, common_steps, c.named.ensures, c.in-Named.is, c.each_member.ensures.read, Ok, some_level)

pub tree_of_form-returns-in_ok-of-in-Choice-clause-read : goal.tree_of_form-returns-in_ok-of-in-Choice-clause-read
tree_of_form-returns-in_ok-of-in-Choice-clause-read g t c =
    rw (choice_read c.in-Choice.k c.in-Choice.k (weights_data c.in-Choice.weights) c.in_ok-of-in-Choice.of refl c.in_ok-of-in-Choice.ensures.weights) (search rules)

pub tree_of_form-returns-in_ok-of-in-Choice-clause-counted : goal.tree_of_form-returns-in_ok-of-in-Choice-clause-counted
tree_of_form-returns-in_ok-of-in-Choice-clause-counted g t c =
    rw (choice_read c.in-Choice.k c.in-Choice.k (weights_data c.in-Choice.weights) c.in_ok-of-in-Choice.of refl c.in_ok-of-in-Choice.ensures.weights, nodes-weighing) (grind (arith, common_steps))
