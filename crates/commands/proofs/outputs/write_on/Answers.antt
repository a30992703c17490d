use Rattle.std.proofs.Common.{rules}
use Rattle.commands.proofs.Calls.{write_again}
use Rattle.commands.proofs.outputs.write_on.Goals as goal

pub loop-init : goal.loop-init
loop-init g c =
    let wrote = c.write_some-last in
    (wrote.ensures.bound, wrote.ensures.bytes, record { writer = c.args.writer.now; answered = wrote.ensures.answered })

pub loop-preserved : goal.loop-preserved
loop-preserved g c =
    let wrote = c.write_some-last-in-loop in
    (wrote.ensures.bound, write_again _ _ _ c.loop.last wrote.result c.args.bytes.now (c.is_interrupted.ensures (search rules)) c.loop.invariant.1 wrote.ensures.bytes, record { writer = c.loop.writer; answered = wrote.ensures.answered })
