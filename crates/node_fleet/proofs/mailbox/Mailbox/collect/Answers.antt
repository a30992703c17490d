use Rattle.node_fleet.proofs.Letters.{collects, learns}
use Rattle.node_fleet.proofs.mailbox.Mailbox.collect.Goals as goal

pub try_recv_as-requires-clause-rule : goal.try_recv_as-requires-clause-rule
try_recv_as-requires-clause-rule g c = (collects _ _ c.loop.invariant.0.1, learns _ _)

pub recv_as-requires-clause-rule : goal.recv_as-requires-clause-rule
recv_as-requires-clause-rule g c = (collects _ _ c.loop-2.invariant.0.1, learns _ _)
