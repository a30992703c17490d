use Rattle.redo_record.proofs.Bytewise.{IsSameTo}
use Rattle.redo_record.proofs.payload.Payload.is_same.Given as goal

abbrev pub invariant-loop-at : goal.invariant-loop-at
invariant-loop-at l = IsSameTo l.self l.other l.at l.same
