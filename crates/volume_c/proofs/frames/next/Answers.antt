use Rattle.std.proofs.Common.{arith}
use Rattle.wire.specs.Common.{message_of}
use Rattle.volume_c.proofs.OwnTurns.{is-next}
use Rattle.volume_c.proofs.frames.next.Goals as goal

pub returns-clause-canonical : goal.returns-clause-canonical
returns-clause-canonical c = is-next (λ x. (message_of x.0, x.1.now)) c.args.bytes.now c.read_next.result (λ i. omega (arith, c.type_inv.bytes i)) c.read_next.ensures
