use Rattle.std.proofs.Common.{Some, None, sym, ◌∙◌}
use Rattle.quorum_expr.proofs.Places.{str_here, says-some, says-none}
use Rattle.quorum_expr.specs.Placed.{data_at, or_null}
use Rattle.quorum_expr.proofs.on_tape.TapeNodeNode.is_text.Goals as goal

pub returns-in-Some : goal.returns-in-Some
returns-in-Some c = c.is_equal.ensures ∙ sym (says-some c.args.text.now c.in-Some.found.now (or_null (data_at c.args.self.now.element)) (sym (str_here c.args.self.now.element (Some c.in-Some.found.now) c.args.self.now.readable c.in-Some.ensures)))

pub returns-in-None : goal.returns-in-None
returns-in-None c = sym (says-none c.args.text.now (or_null (data_at c.args.self.now.element)) (sym (str_here c.args.self.now.element None c.args.self.now.readable c.in-None.ensures)))
