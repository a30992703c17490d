use Rattle.std.proofs.Common.{map, ap, ◌∙◌, sym, insert}
use Rattle.quorum_checker.specs.Items.{state_of, shown}
use Rattle.quorum_checker.specs.Refutes.{items_of}
use Rattle.quorum_checker.proofs.Shown.{set_left, set_right, map-insert}
use Rattle.quorum_checker.proofs.items.Items.put_back.Goals as goal

pub returns-in_ok-insert-in-Left-clause-ok : goal.returns-in_ok-insert-in-Left-clause-ok
returns-in_ok-insert-in-Left-clause-ok g c = set_left c.args.side _ _ (state_of c.args.self.now) c.in-Left.is (ap (map shown) c.in_ok-insert-in-Left.ensures.items ∙ ap (λ n. map shown (insert c.args.self.now.left.items n c.args.item)) c.from.ensures ∙ map-insert shown c.args.self.now.left.items c.args.at c.args.item ∙ ap (λ s. insert (items_of s (state_of c.args.self.now)) c.args.at (shown c.args.item)) (sym c.in-Left.is))

pub returns-in_ok-insert-in-Right-clause-ok : goal.returns-in_ok-insert-in-Right-clause-ok
returns-in_ok-insert-in-Right-clause-ok g c = set_right c.args.side _ _ (state_of c.args.self.now) c.in-Right.is (ap (map shown) c.in_ok-insert-in-Right.ensures.items ∙ ap (λ n. map shown (insert c.args.self.now.right.items n c.args.item)) c.from-in-Right.ensures ∙ map-insert shown c.args.self.now.right.items c.args.at c.args.item ∙ ap (λ s. insert (items_of s (state_of c.args.self.now)) c.args.at (shown c.args.item)) (sym c.in-Right.is))
