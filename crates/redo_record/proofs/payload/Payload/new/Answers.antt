use Rattle.redo_record.proofs.Bytewise.{is-padded}
use Rattle.redo_record.proofs.payload.Payload.new.Goals as goal
use Rattle.std.proofs.Common.{rules}

pub invariant_of-result : goal.invariant_of-result
invariant_of-result c = search (rules, c.if-length-eq0.false, c.if-length-gt-MOST_BYTES.false, c.copy_from_slice.ensures.after, is-padded)
