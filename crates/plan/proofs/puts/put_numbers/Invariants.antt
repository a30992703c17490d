use Rattle.std.proofs.Common.{map, take}
use Rattle.refutation.specs.Common.{number_data}
use Rattle.plan.specs.Puts.{Lists}
use Rattle.plan.proofs.puts.put_numbers.Given as goal

abbrev pub invariant-loop-number : goal.invariant-loop-number
invariant-loop-number l = record { puts : Lists (map number_data (take l.number-index l.numbers)) l.fn.writer l.writer }
