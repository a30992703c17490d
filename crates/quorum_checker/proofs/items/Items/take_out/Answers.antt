use Rattle.std.proofs.Common.{map, ap, ◌∙◌, sym, remove}
use Rattle.quorum_checker.specs.Items.{state_of, shown}
use Rattle.quorum_checker.specs.Refutes.{items_of}
use Rattle.quorum_checker.proofs.Shown.{set_left, set_right, map-remove}
use Rattle.quorum_checker.proofs.items.Items.take_out.Goals as goal

pub returns-in-Left-clause-state : goal.returns-in-Left-clause-state
returns-in-Left-clause-state g c = set_left c.args.side _ _ (state_of c.args.self.now) c.in-Left.is (ap (map shown) c.remove.ensures.items ∙ ap (λ n. map shown (remove c.args.self.now.left.items n)) c.from.ensures ∙ map-remove shown c.args.self.now.left.items c.args.at ∙ ap (λ s. remove (items_of s (state_of c.args.self.now)) c.args.at) (sym c.in-Left.is))

pub returns-in-Right-clause-state : goal.returns-in-Right-clause-state
returns-in-Right-clause-state g c = set_right c.args.side _ _ (state_of c.args.self.now) c.in-Right.is (ap (map shown) c.remove-in-Right.ensures.items ∙ ap (λ n. map shown (remove c.args.self.now.right.items n)) c.from-in-Right.ensures ∙ map-remove shown c.args.self.now.right.items c.args.at ∙ ap (λ s. remove (items_of s (state_of c.args.self.now)) c.args.at) (sym c.in-Right.is))
