use Rattle.std.proofs.Common.{◌≡◌, vec_len}
use Rattle.journal.proofs.row.Row.new.Given as goal

abbrev pub invariant-loop : goal.invariant-loop
invariant-loop l = vec_len l.made ≡ l.counter
