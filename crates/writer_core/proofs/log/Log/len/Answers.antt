use Rattle.std.proofs.Common.{length-append, arith}
use Rattle.redo_record.specs.Common.{packets_of}
use Rattle.writer_core.specs.Log.{packets_in}
use Rattle.writer_core.proofs.Bounds.{packets-few}
use Rattle.writer_core.proofs.log.Log.len.Goals as goal

pub overflow_add-result : goal.overflow_add-result
overflow_add-result c =
    let log = c.args.self.now in
    omega (arith, log.counted, packets-few (packets_in log) log.growing, length-append (packets_of log.found) log.issued.items)
