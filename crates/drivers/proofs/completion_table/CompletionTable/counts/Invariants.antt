use Rattle.std.proofs.Common.{◌≡◌, ◌+◌}
use Rattle.drivers.proofs.completion_table.CompletionTable.counts.Given as goal

abbrev pub invariant-loop-slot : goal.invariant-loop-slot
invariant-loop-slot g l = l.counts.made + l.counts.refused ≡ l.slot-index
