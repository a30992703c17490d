use Rattle.std.proofs.Common.{take, map, ap, ◌∙◌, sym}
use Rattle.quorum_checker.specs.Items.{state_of, shown}
use Rattle.quorum_checker.specs.Refutes.{items_of}
use Rattle.quorum_checker.proofs.Shown.{set_left, set_right, map-take}
use Rattle.quorum_checker.proofs.items.Items.truncate.Goals as goal

pub returns-in-Left : goal.returns-in-Left
returns-in-Left g c = set_left c.args.side _ _ (state_of c.args.self.now) c.in-Left.is (ap (map shown) c.truncate.ensures.items ∙ map-take shown c.args.kept c.args.self.now.left.items ∙ ap (λ s. take c.args.kept (items_of s (state_of c.args.self.now))) (sym c.in-Left.is))

pub returns-in-Right : goal.returns-in-Right
returns-in-Right g c = set_right c.args.side _ _ (state_of c.args.self.now) c.in-Right.is (ap (map shown) c.truncate-in-Right.ensures.items ∙ map-take shown c.args.kept c.args.self.now.right.items ∙ ap (λ s. take c.args.kept (items_of s (state_of c.args.self.now))) (sym c.in-Right.is))
