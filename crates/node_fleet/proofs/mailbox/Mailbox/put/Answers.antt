use Rattle.node_fleet.proofs.Letters.{posts, learns}
use Rattle.node_fleet.proofs.mailbox.Mailbox.put.Goals as goal

pub send_as-requires-clause-rule : goal.send_as-requires-clause-rule
send_as-requires-clause-rule g c = (posts _ _ _ _ c.loop.invariant.0.1, learns _ _)
