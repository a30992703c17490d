use Rattle.std.proofs.Common.{arith}
use Rattle.redo_record.proofs.Bytewise.{same-begun, same-next, same-ended}
use Rattle.redo_record.proofs.payload.Payload.is_same.Goals as goal

pub loop-at-init : goal.loop-at-init
loop-at-init c = same-begun c.args.self.now c.args.other.now

pub loop-at-preserved : goal.loop-at-preserved
loop-at-preserved c = same-next c.args.self.now c.args.other.now c.loop-at.at c.loop-at.same c.loop-at.invariant

pub returns : goal.returns
returns c = same-ended c.args.self.now c.args.other.now c.loop-at.at c.loop-at.same (omega (arith, c.loop-at-test.false, c.loop-at.auto.at-end)) c.loop-at.invariant
