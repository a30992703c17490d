use Rattle.plan_edit.proofs.Spans.{AddsBelow}
use Rattle.plan_edit.proofs.word_reading.with_range.Given as goal

abbrev pub invariant-loop-number : goal.invariant-loop-number
invariant-loop-number l = AddsBelow l.first l.last l.number l.fn.members l.all
