use Rattle.std.proofs.Common.{◌≡◌, ◌++◌, take, map}
use Rattle.quorum_checker.specs.Items.{state_of, shown_as}
use Rattle.quorum_checker.specs.Refutes.{items_of, with_items}
use Rattle.quorum_checker.proofs.items.Items.push_children.Given as goal

-- the children so far are at the end
abbrev pub invariant-loop-expr : goal.invariant-loop-expr
invariant-loop-expr g l =
    state_of l.self ≡ with_items l.side (items_of l.side (state_of l.fn.self) ++ map (λ x. shown_as l.item.is_dual x.1) (take l.expr-index l.expr-items)) (state_of l.fn.self)
