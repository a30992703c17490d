use Rattle.std.proofs.Common.{◌+◌, ◌*◌}
use Rattle.serde_json.specs.Events.{items_len}
use Rattle.quorum_expr.specs.Common.{items_at, or_none, data_of}
use Rattle.plan.proofs.Copied.{Copies}
use Rattle.plan.proofs.expressions.+put.Given as goal

abbrev pub decreases-put_children : goal.decreases-put_children
decreases-put_children l = 2 * l.left + 1

abbrev pub decreases-put_within : goal.decreases-put_within
decreases-put_within l = 2 * l.left

abbrev pub invariant-put_children-children : goal.invariant-put_children-children
invariant-put_children-children l = Copies (data_of l.node) l.fn.writer l.writer (or_none (items_at l.rest.items))

abbrev pub decreases-put_children-children : goal.decreases-put_children-children
decreases-put_children-children l = items_len (or_none (items_at l.rest.items))
