use Rattle.writer_core.proofs.Growing.{last_of_group-le, last_of_block-le}
use Rattle.writer_core.proofs.issuing.next_packet.Goals as goal
use Rattle.std.proofs.lemmas.Grind.{common_steps}
use Rattle.std.proofs.Common.{arith}

pub invariant_of-record-clause-prev_group_in_volume : goal.invariant_of-record-clause-prev_group_in_volume
invariant_of-record-clause-prev_group_in_volume c = grind (arith, common_steps, c.in_ok-prev_group.ensures.last, c.last_lsn-last.ensures, last_of_group-le)

pub invariant_of-record-clause-prev_block_in_group : goal.invariant_of-record-clause-prev_block_in_group
invariant_of-record-clause-prev_block_in_group c = grind (arith, common_steps, c.in_ok-prev_block.ensures.before, c.in_ok-prev_group.ensures.last, last_of_block-le)
