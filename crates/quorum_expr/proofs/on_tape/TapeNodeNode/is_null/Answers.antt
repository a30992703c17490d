use Rattle.quorum_expr.proofs.Places.{null_here}
use Rattle.quorum_expr.proofs.on_tape.TapeNodeNode.is_null.Goals as goal

pub returns : goal.returns
returns c = null_here c.args.self.now.element c.is_null.result c.args.self.now.readable c.is_null.ensures
