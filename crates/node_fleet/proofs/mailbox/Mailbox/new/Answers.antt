use Rattle.std.proofs.Common.{length, ap, arith}
use Rattle.node_fleet.proofs.Letters.{begins, counts, deals}
use Rattle.node_fleet.proofs.mailbox.Mailbox.new.Goals as goal

pub bounded_with-requires-clause-rule : goal.bounded_with-requires-clause-rule
bounded_with-requires-clause-rule c = begins

pub another-requires-clause-rule : goal.another-requires-clause-rule
another-requires-clause-rule c = counts _ _ (omega (arith, ap length c.loop.invariant.one)) (omega arith)

pub another-pass-requires-clause-rule : goal.another-pass-requires-clause-rule
another-pass-requires-clause-rule c = deals _ _ (omega arith)
