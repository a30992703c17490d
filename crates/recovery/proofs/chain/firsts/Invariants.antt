use Rattle.std.proofs.Common.{◌≡◌, ℕ, ◌≤◌, true, List, ◌++◌, length}
use Rattle.volume_model.specs.Common.{IsIn, Redo, last_lsn, record_at}
use Rattle.redo_record.specs.Common.{IsInOrder, left_of, records_of}
use Rattle.writer_core.specs.Logs.{log_of_set, is_growing}
use Rattle.recovery.proofs.Firsts.{find}
use Rattle.recovery.proofs.chain.firsts.Given as goal

abbrev pub invariant-loop-packet : goal.invariant-loop-packet
invariant-loop-packet l = (done : List Redo) × record {
  all : done ++ left_of l.left ≡ records_of l.set;
  in_order : IsInOrder (left_of l.left);
  growing : is_growing (log_of_set l.firsts) ≡ true;
  last : l.last ≡ last_lsn (log_of_set l.firsts);
  same : (n : ℕ) → record_at (log_of_set l.firsts) n ≡ find done n;
  low : (r : Redo) → IsIn r (left_of l.left) → l.last ≤ r.lsn;
}

abbrev pub decreases-loop-packet : goal.decreases-loop-packet
decreases-loop-packet l = length (left_of l.left)
