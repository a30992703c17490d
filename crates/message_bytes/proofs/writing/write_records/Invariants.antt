use Rattle.std.proofs.Common.{◌≡◌, ◌≤◌, take, drop, length}
use Rattle.redo_record.specs.Common.{left_of}
use Rattle.message_bytes.specs.Spelling.{records_spelled}
use Rattle.message_bytes.proofs.writing.write_records.Given as goal

abbrev pub invariant-loop-packet : goal.invariant-loop-packet
invariant-loop-packet l = record {
  within : l.count ≤ length (left_of l.initial.left);
  few : l.count ≤ l.end;
  rest : drop l.count (left_of l.initial.left) ≡ left_of l.left;
  fits : l.end ≤ length l.out;
  front : take l.end l.out ≡ records_spelled (take l.count (left_of l.initial.left));
  back : drop l.end l.out ≡ drop l.end l.initial.out;
}

abbrev pub decreases-loop-packet : goal.decreases-loop-packet
decreases-loop-packet l = length (left_of l.left)
