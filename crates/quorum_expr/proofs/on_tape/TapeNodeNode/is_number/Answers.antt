use Rattle.std.proofs.Common.{Some, None}
use Rattle.quorum_expr.proofs.Places.{is_number_here}
use Rattle.quorum_expr.proofs.on_tape.TapeNodeNode.is_number.Goals as goal

pub returns-in-Some : goal.returns-in-Some
returns-in-Some c = is_number_here c.args.self.now.element (Some c.in-Some.field-0.now) c.args.self.now.readable c.in-Some.ensures

pub returns-in-None : goal.returns-in-None
returns-in-None c = is_number_here c.args.self.now.element None c.args.self.now.readable c.in-None.ensures
