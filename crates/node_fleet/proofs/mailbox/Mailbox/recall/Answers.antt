use Rattle.std.proofs.Common.{arith}
use Rattle.node_fleet.proofs.Letters.{ends}
use Rattle.node_fleet.proofs.mailbox.Mailbox.recall.Goals as goal

pub learn_as-requires-clause-rule : goal.learn_as-requires-clause-rule
learn_as-requires-clause-rule c = ends _ _ (omega (arith, c.requires.all, c.requires.of.3, c.args.all.now.dealt)) (omega (arith, c.requires.all, c.requires.of.3, c.args.all.now.some))
