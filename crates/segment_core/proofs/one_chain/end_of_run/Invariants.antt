use Rattle.std.proofs.Common.{take, map}
use Rattle.redo_record.specs.Common.{shared_redo}
use Rattle.segment_core.specs.OneChain.{IsOneChain}
use Rattle.segment_core.proofs.one_chain.end_of_run.Given as goal

abbrev pub invariant-loop-packet : goal.invariant-loop-packet
invariant-loop-packet l = IsOneChain l.before (take l.packet-index (map shared_redo l.packets)) l.last
