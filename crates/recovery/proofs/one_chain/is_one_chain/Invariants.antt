use Rattle.std.proofs.Common.{[], take}
use Rattle.volume_model.specs.Common.{added}
use Rattle.redo_record.specs.Common.{joined, runs_in}
use Rattle.recovery.specs.Chains.{IsChainTo}
use Rattle.recovery.proofs.one_chain.is_one_chain.Given as goal

abbrev pub invariant-loop-run : goal.invariant-loop-run
invariant-loop-run l = IsChainTo l.last (added (joined (runs_in (take l.run-index l.run-items))) [])
