use Rattle.std.proofs.Common.{◌≡◌, length}
use Rattle.redo_record.specs.Common.{records_of, left_of}
use Rattle.segment_core.specs.Chains as chains
use Rattle.segment_core.proofs.line.is_line.Given as goal

abbrev pub invariant-loop-packet : goal.invariant-loop-packet
invariant-loop-packet l = chains.is_line 0 (records_of l.set) ≡ chains.is_line l.last (left_of l.left)

abbrev pub decreases-loop-packet : goal.decreases-loop-packet
decreases-loop-packet l = length (left_of l.left)
