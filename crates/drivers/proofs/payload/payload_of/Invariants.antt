use Rattle.std.proofs.Common.{◌≡◌, ◌*◌, ◌++◌, ◌+◌, length, option_map, take}
use Rattle.drivers.specs.Words.{all_bytes_in}
use Rattle.drivers.proofs.payload.payload_of.Given as goal

abbrev pub invariant-loop-digits : goal.invariant-loop-digits
invariant-loop-digits l = record {
  spelled : all_bytes_in l.word ≡ option_map (λ more. take l.count l.bytes ++ more) (all_bytes_in l.digits);
  size : length l.bytes ≡ 64;
  room : l.count * 2 + length l.digits ≡ length l.word;
}

abbrev pub decreases-loop-digits : goal.decreases-loop-digits
decreases-loop-digits l = length l.digits
