use Rattle.node_fleet.proofs.Letters.{returns}
use Rattle.node_fleet.proofs.mailbox.Mailbox.take_back.Goals as goal

pub absorb-requires-clause-rule : goal.absorb-requires-clause-rule
absorb-requires-clause-rule c = returns _ _ _ _ c.args.all.now.some
