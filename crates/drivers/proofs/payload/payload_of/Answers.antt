use Rattle.std.proofs.Common.{arith, add-one, drop, length, refl, set, take, ◌+◌, ◌-◌}
use Rattle.std.proofs.Math.ListN.{length-set}
use Rattle.std.proofs.Math.Seq.{take-suc-set}
use Rattle.drivers.specs.Words.{all_bytes_in}
use Rattle.drivers.proofs.Numerals.{after_two, bytes_more, none_yet}
use Rattle.drivers.proofs.payload.payload_of.Goals as goal

pub loop-digits-init : goal.loop-digits-init
loop-digits-init c = record { spelled = none_yet (all_bytes_in c.args.word.now); size = refl; room = omega arith }

pub loop-digits-preserved : goal.loop-digits-preserved
loop-digits-preserved c =
    let digits = c.loop-digits.digits.now in
    let bytes = c.loop-digits.bytes in
    let count = c.loop-digits.count in
    record {
      spelled = bytes_more c.args.word.now (take count bytes) (take (count + 1) (set bytes count c.in_ok-bytes.field-0)) digits (take (length digits - 2) (drop 2 digits)) c.in_ok-bytes.field-0
          c.loop-digits.invariant.spelled (omega arith) (after_two digits) c.in_ok-bytes.ensures (rw add-one (take-suc-set bytes count c.in_ok-bytes.field-0 (omega arith)));
      size = simp length-set c.loop-digits.invariant.size;
      room = omega arith;
    }
