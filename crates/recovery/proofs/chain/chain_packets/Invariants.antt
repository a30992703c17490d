use Rattle.std.proofs.Common.{◌≡◌, map}
use Rattle.redo_record.specs.Common.{shared_redo}
use Rattle.writer_core.specs.Logs.{log_of_set}
use Rattle.recovery.proofs.Links.{chain}
use Rattle.recovery.proofs.Ends.{then_chain}
use Rattle.recovery.proofs.chain.chain_packets.Given as goal

abbrev pub invariant-loop-packet : goal.invariant-loop-packet
invariant-loop-packet l = chain (log_of_set l.records) l.lsn ≡ then_chain (map shared_redo l.log.items) (chain (log_of_set l.records) l.next)

abbrev pub decreases-loop-packet : goal.decreases-loop-packet
decreases-loop-packet l = l.next
