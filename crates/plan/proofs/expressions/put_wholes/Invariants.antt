use Rattle.serde_json.specs.Events.{items_len}
use Rattle.quorum_expr.specs.Common.{items_at, or_none, data_of}
use Rattle.plan.proofs.Copied.{Copies}
use Rattle.plan.proofs.expressions.put_wholes.Given as goal

abbrev pub invariant-loop-item : goal.invariant-loop-item
invariant-loop-item l = Copies (data_of l.node) l.fn.writer l.writer (or_none (items_at l.rest.items))

abbrev pub decreases-loop-item : goal.decreases-loop-item
decreases-loop-item l = items_len (or_none (items_at l.rest.items))
