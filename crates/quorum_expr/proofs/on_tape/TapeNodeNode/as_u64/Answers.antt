use Rattle.std.proofs.Common.{Some, None, option_and_then, ap, ◌∙◌}
use Rattle.serde_json.specs.Find.{as_u64}
use Rattle.quorum_expr.proofs.Places.{number_here}
use Rattle.quorum_expr.proofs.on_tape.TapeNodeNode.as_u64.Goals as goal

pub returns-in-Some : goal.returns-in-Some
returns-in-Some c = c.whole_number.ensures ∙ ap (option_and_then as_u64) (number_here c.args.self.now.element (Some c.in-Some.text.now) c.args.self.now.readable c.in-Some.ensures)

pub returns-in-None : goal.returns-in-None
returns-in-None c = ap (option_and_then as_u64) (number_here c.args.self.now.element None c.args.self.now.readable c.in-None.ensures)
