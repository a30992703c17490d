use Rattle.plan.proofs.Putting.{then_put, one_of, all_of}
use Rattle.plan.proofs.Joined.{joined-pairs}
use Rattle.plan.proofs.puts.put_pairs.Goals as goal
use Rattle.std.proofs.Common.{rules}

pub loop-pair-preserved : goal.loop-pair-preserved
loop-pair-preserved c = search (rules, c.loop-pair.invariant.puts, c.in_ok-put_pair.ensures, one_of)

pub returns : goal.returns
returns c = search (rules, c.close_array.ensures, c.loop-pair.invariant.puts, then_put, all_of, joined-pairs)
