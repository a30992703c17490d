use Rattle.std.proofs.Common.{Some, None, is_some, sym, ap, ◌∙◌}
use Rattle.quorum_expr.proofs.Places.{items_here}
use Rattle.quorum_expr.specs.Placed.{or_none}
use Rattle.quorum_expr.proofs.on_tape.TapeNodeNode.items.Goals as goal

pub invariant_of-result : goal.invariant_of-result
invariant_of-result c = let x = items_here c.args.self.now.element (Some c.in-Some.items) c.args.self.now.readable c.in-Some.ensures in record { readable = ap is_some x.1 }

pub returns-in-Some : goal.returns-in-Some
returns-in-Some c = let x = items_here c.args.self.now.element (Some c.in-Some.items) c.args.self.now.readable c.in-Some.ensures in ap (λ o. Some (or_none o)) x.1 ∙ sym x.2

pub returns-in-None : goal.returns-in-None
returns-in-None c = sym (items_here c.args.self.now.element None c.args.self.now.readable c.in-None.ensures)
