use Rattle.std.proofs.Common.{arith}
use Rattle.writer_core.proofs.Joined.{left-none}
use Rattle.writer_core.proofs.log.Log.packet.Goals as goal
use Rattle.std.proofs.lemmas.Grind.{common_steps}

pub unreachable-requires : goal.unreachable-requires
unreachable-requires c = grind (arith, common_steps, c.records_from.ensures.packets, c.in-None.ensures.packets, left-none)
