use Rattle.std.proofs.Common.{arith, subst}
use Rattle.refutation.specs.Common.{number_data}
use Rattle.plan.specs.Puts.{Puts}
use Rattle.plan.proofs.Putting.{then_put, one_of, all_of}
use Rattle.plan.proofs.Joined.{joined-numbers}
use Rattle.plan.proofs.puts.put_numbers.Goals as goal
use Rattle.std.proofs.Common.{rules}

pub loop-number-preserved : goal.loop-number-preserved
loop-number-preserved c = record {
  puts = one_of number_data c.args.numbers.now c.loop-number.number-index _ c.args.writer.now c.loop-number.writer c.put_number.new.writer (omega arith) c.loop-number.invariant.puts (subst (λ n. Puts (number_data n) c.loop-number.writer c.put_number.new.writer) c.from.ensures c.in_ok-put_number.ensures);
}

pub returns : goal.returns
returns c = search (rules, c.close_array.ensures, c.loop-number.invariant.puts, then_put, all_of, joined-numbers)
