use Rattle.std.proofs.Common.{◌≡◌, ◌≤◌, count_by, eqb, take}
use Rattle.drivers.proofs.seeking.count_in_piece.Given as goal

abbrev pub invariant-loop-other : goal.invariant-loop-other
invariant-loop-other l = record {
  counted : l.count ≡ count_by (λ b. eqb b l.byte) (take l.other-index l.piece);
  few : l.count ≤ l.other-index;
}
