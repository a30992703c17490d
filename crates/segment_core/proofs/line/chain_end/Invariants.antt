use Rattle.std.proofs.Common.{◌-◌, drop, length}
use Rattle.redo_record.specs.Common.{records_of, runs_of, index_of}
use Rattle.segment_core.specs.Chains as chains
use Rattle.segment_core.proofs.Lines.{IsOnTheWay}
use Rattle.segment_core.proofs.line.chain_end.Given as goal

abbrev pub invariant-loop-next : goal.invariant-loop-next
invariant-loop-next l = IsOnTheWay l.set l.at l.next l.last (chains.chain_end l.lsn (drop (index_of (runs_of l.set) l.fn.place) (records_of l.set)))

abbrev pub decreases-loop-next : goal.decreases-loop-next
decreases-loop-next l = length (records_of l.set) - index_of (runs_of l.set) l.at
