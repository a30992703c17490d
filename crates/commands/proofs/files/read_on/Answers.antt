use Rattle.std.proofs.Common.{rules}
use Rattle.commands.proofs.Calls.{read_again, read_fails}
use Rattle.commands.proofs.files.read_on.Goals as goal

pub loop-init : goal.loop-init
loop-init g c =
    let read = c.read_some-last in
    (search rules, read.ensures.bound, read.ensures.bytes, read_fails g.R.FallibleRead.answers c.args.reader.now read.result read.ensures.answered)

pub loop-preserved : goal.loop-preserved
loop-preserved g c =
    let read = c.read_some-last-in-loop in
    (search rules, read.ensures.bound, read_again _ _ _ c.loop.last read.result c.loop.buf read.new.buf (c.is_interrupted.ensures (search rules)) c.loop.invariant.2 read.ensures.bytes, read_fails g.R.FallibleRead.answers c.loop.reader read.result read.ensures.answered)
