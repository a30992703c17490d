use Rattle.std.proofs.Common.{◌≡◌, List, [], ◌++◌, length}
use Rattle.volume_model.specs.Common.{added, Redo}
use Rattle.redo_record.specs.Common.{left_of, records_of}
use Rattle.recovery.specs.Chains.{IsChainTo}
use Rattle.recovery.proofs.chain.chain_length.Given as goal

abbrev pub invariant-loop-last : goal.invariant-loop-last
invariant-loop-last l = (done : List Redo) × (done ++ left_of l.left ≡ records_of l.records) × (l.len ≡ length done) × IsChainTo l.last (added done [])

abbrev pub decreases-loop-last : goal.decreases-loop-last
decreases-loop-last l = length (left_of l.left)
