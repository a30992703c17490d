use Rattle.std.proofs.Common.{ap, ◌∙◌, sym, map}
use Rattle.quorum_checker.specs.Items.{shown_as}
use Rattle.quorum_checker.proofs.Shown.{shown_children}
use Rattle.quorum_checker.proofs.item.Item.children.Goals as goal

pub returns-in-KOf : goal.returns-in-KOf
returns-in-KOf g c = ap (map (λ x. shown_as c.args.self.is_dual x.1)) c.as_slice.ensures.value ∙ sym (shown_children c.args.self.is_dual c.args.self.expr.now c.in-KOf.k c.in-KOf.of c.in-KOf.is)
