use Rattle.std.proofs.Common.{sym, ◌∙◌, arith}
use Rattle.json.specs.declared.tape.Node.TheVariants.{Object}
use Rattle.quorum_expr.proofs.Passing.{next_node, no_node}
use Rattle.quorum_expr.proofs.root.are_readable.Goals as goal
use Rattle.std.proofs.lemmas.Grind.{common_steps}

pub returns : goal.returns
returns c = sym (no_node c.loop-node.left c.loop-node.node-index c.args.nodes.now c.loop-node-test.false) ∙ c.loop-node.invariant.same

pub returns-in-None : goal.returns-in-None
returns-in-None c = sym (c.in-None.ensures.passes _) ∙ sym (next_node c.loop-node.left c.loop-node.node-index c.args.nodes.now (Object 0) c.loop-node-test.true) ∙ c.loop-node.invariant.same

pub loop-node-preserved : goal.loop-node-preserved
loop-node-preserved c = grind (arith, common_steps)
