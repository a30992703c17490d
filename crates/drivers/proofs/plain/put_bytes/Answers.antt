use Rattle.std.proofs.Common.{◌+◌, add-one, arith, length, set, take, ◌-◌, drop}
use Rattle.std.proofs.Math.ListN.{length-set}
use Rattle.std.proofs.Math.Seq.{take-suc-set}
use Rattle.drivers.proofs.Numerals.{after_two}
use Rattle.drivers.proofs.PlainChanges.{spelled_more}
use Rattle.drivers.proofs.plain.put_bytes.Goals as goal

pub loop-rest-preserved : goal.loop-rest-preserved
loop-rest-preserved c =
    let l = c.loop-rest in
    let rest = l.rest.now in
    let byte = c.in-Ok.byte in
    record {
      spelled = spelled_more c.args.text.now (take l.count l.bytes) (take (l.count + 1) (set l.bytes l.count byte)) rest (take (length rest - 2) (drop 2 rest)) l.count byte
          l.invariant.spelled (omega arith) c.in-Ok.ensures (after_two rest) (rw add-one (take-suc-set l.bytes l.count byte (omega arith)));
      size = simp length-set l.invariant.size;
      few = omega arith;
    }
