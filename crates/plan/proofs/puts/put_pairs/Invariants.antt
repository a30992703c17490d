use Rattle.std.proofs.Common.{map, take}
use Rattle.refutation.specs.Common.{pair_data}
use Rattle.plan.specs.Puts.{Lists}
use Rattle.plan.proofs.puts.put_pairs.Given as goal

abbrev pub invariant-loop-pair : goal.invariant-loop-pair
invariant-loop-pair l = record { puts : Lists (map pair_data (take l.pair-index l.pairs)) l.fn.writer l.writer }
