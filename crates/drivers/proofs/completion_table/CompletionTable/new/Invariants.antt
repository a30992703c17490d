use Rattle.std.proofs.Common.{◌≡◌, vec_len}
use Rattle.drivers.proofs.completion_table.CompletionTable.new.Given as goal

abbrev pub invariant-loop : goal.invariant-loop
invariant-loop l = vec_len l.slots ≡ l.counter
