use Rattle.quorum_checker.proofs.Shown.{more_pushed}
use Rattle.quorum_checker.proofs.items.Items.push_children.Goals as goal
use Rattle.std.proofs.lemmas.Grind.{common_steps}
use Rattle.std.proofs.Common.{arith}

pub loop-expr-preserved : goal.loop-expr-preserved
loop-expr-preserved g c = grind (arith, common_steps, c.loop-expr-test.true, c.loop-expr-item.is, c.loop-expr.invariant, c.in_ok-push.ensures.ok, more_pushed)
