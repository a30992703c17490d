use Rattle.std.proofs.Common.{arith, rules, append-nil}
use Rattle.redo_record.proofs.Again.{length-spelled}
use Rattle.message_bytes.proofs.Again.{drop-further}
use Rattle.message_bytes.proofs.Found.{records_spelled-append}
use Rattle.message_bytes.proofs.Left.{next-taken}
use Rattle.message_bytes.proofs.writing.write_records.Goals as goal
use Rattle.std.proofs.lemmas.Grind.{common_steps}

pub overflow_add-count : goal.overflow_add-count
overflow_add-count c = grind (arith, common_steps)

pub loop-packet-preserved : goal.loop-packet-preserved
loop-packet-preserved c = search (rules, c.loop-packet.invariant, c.in-Some.ensures.records, c.put_at.ensures.back, next-taken, length-spelled, append-nil, records_spelled-append, drop-further)
