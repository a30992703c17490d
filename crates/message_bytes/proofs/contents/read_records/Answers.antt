use Rattle.std.proofs.Common.{[], Ok}
use Rattle.std.proofs.lemmas.Result.{err_from_is_err_and}
use Rattle.redo_record.specs.Common.{shared_redo, records_of}
use Rattle.message_bytes.specs.Contents.{records_at}
use Rattle.message_bytes.proofs.Loop.{records, read-on, read-short, read-bad, read-done}
use Rattle.message_bytes.proofs.contents.read_records.Goals as goal
use Rattle.std.proofs.lemmas.Grind.{common_steps}
use Rattle.std.proofs.Common.{arith}

pub returns-in_err-packet : goal.returns-in_err-packet
returns-in_err-packet c =
    let p = err_from_is_err_and c.from_residual.result c.from_residual.ensures.1 in
    rw (p.1, p.2) (read-short records c.in_err-packet.field-0.0 c.args.count c.loop.counter (records_of c.loop.set) c.loop.rest.now (records_at c.args.count [] c.args.bytes.now) c.loop-test.true c.in_err-packet.ensures c.loop.invariant)

pub returns-in_err-set : goal.returns-in_err-set
returns-in_err-set c =
    let p = err_from_is_err_and c.from_residual-in_err-set.result c.from_residual-in_err-set.ensures.1 in
    rw (p.1, p.2) (read-bad records c.in_err-set.field-0.0 c.args.count c.loop.counter (records_of c.loop.set) c.loop.rest.now c.in_ok-packet.after.now (shared_redo c.in_ok-packet.packet) (records_at c.args.count [] c.args.bytes.now) c.loop-test.true c.in_ok-packet.ensures c.in_err-set.ensures c.loop.invariant)

pub loop-preserved : goal.loop-preserved
loop-preserved c =
    read-on records c.args.count c.loop.counter (records_of c.loop.set) (records_of c.in_ok-set.set) c.loop.rest.now c.in_ok-packet.after.now (shared_redo c.in_ok-packet.packet) (records_at c.args.count [] c.args.bytes.now) c.loop-test.true c.in_ok-packet.ensures c.in_ok-set.ensures c.loop.invariant

pub returns : goal.returns
returns c = grind (arith, common_steps, c.loop-test.false, c.loop.invariant, c.share.ensures, read-done, records, Ok)
