use Rattle.std.proofs.Common.{Some, None}
use Rattle.quorum_expr.proofs.Places.{keys_here}
use Rattle.quorum_expr.proofs.on_tape.TapeNodeNode.keys.Goals as goal

pub returns-in-Some : goal.returns-in-Some
returns-in-Some c = keys_here c.args.self.now.element c.args.most (Some c.in-Some.members) (Some c.distinct.result) c.args.self.now.readable c.in-Some.ensures c.distinct.ensures

pub returns-in-None : goal.returns-in-None
returns-in-None c = keys_here c.args.self.now.element c.args.most None None c.args.self.now.readable c.in-None.ensures tt
