use Rattle.std.proofs.Common.{◌≡◌, ◌≤◌, length, take}
use Rattle.drivers.proofs.PlainChanges.{AreSpelled}
use Rattle.drivers.proofs.plain.put_bytes.Given as goal

abbrev pub invariant-loop-rest : goal.invariant-loop-rest
invariant-loop-rest l = record {
  spelled : AreSpelled l.text (take l.count l.bytes) l.rest l.count;
  size : length l.bytes ≡ 64;
  few : l.count ≤ 64;
}

abbrev pub decreases-loop-rest : goal.decreases-loop-rest
decreases-loop-rest l = length l.rest
