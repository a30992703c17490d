use Rattle.std.proofs.Common.{◌∙◌, ◌-◌, ℕ, List, sym, ap, arith}
use Rattle.volume_model.specs.Common.{last_lsn}
use Rattle.redo_record.specs.declared.shared_record.SharedRecord.{SharedRecord}
use Rattle.redo_record.specs.Common.{records_of}
use Rattle.recovery.proofs.OneChain.{before-counted, last-taken, point-within, point-found, point-earlier}
use Rattle.recovery.proofs.one_chain.last_point.Goals as goal

pub returns-then-len-gt0-clause-within : goal.returns-then-len-gt0-clause-within
returns-then-len-gt0-clause-within c =
    let place : ℕ = c.loop-place.place in
    point-within c.runs-runs.result.now (records_of c.args.set.now) place (place - 1) c.loop-place.count c.index-runs-place.result c.as_slice-packets.result.now c.runs-runs.ensures (omega arith) (omega arith) c.index-runs-place.is c.as_slice-packets.ensures.records
    c.loop-place.invariant.counted c.loop-place.invariant.same c.count_to_point-len.result c.count_to_point-len.ensures.within

pub returns-then-len-gt0-clause-count : goal.returns-then-len-gt0-clause-count
returns-then-len-gt0-clause-count c =
    let place : ℕ = c.loop-place.place in
    let found = point-found c.runs-runs.result.now (records_of c.args.set.now) place (place - 1) c.loop-place.count c.index-runs-place.result c.as_slice-packets.result.now c.runs-runs.ensures (omega arith) (omega arith) c.index-runs-place.is c.as_slice-packets.ensures.records
    c.loop-place.invariant.counted c.loop-place.invariant.same c.count_to_point-len.result c.count_to_point-len.ensures.within c.count_to_point-len.ensures.same (c.count_to_point-len.ensures.point c.if-len-gt0.true) in
    found.0 ∙ sym found.1

pub returns-then-len-gt0-clause-lsn : goal.returns-then-len-gt0-clause-lsn
returns-then-len-gt0-clause-lsn c =
    let place : ℕ = c.loop-place.place in
    let read : List SharedRecord = c.as_slice-packets.result.now in
    let found = point-found c.runs-runs.result.now (records_of c.args.set.now) place (place - 1) c.loop-place.count c.index-runs-place.result read c.runs-runs.ensures (omega arith) (omega arith) c.index-runs-place.is c.as_slice-packets.ensures.records
    c.loop-place.invariant.counted c.loop-place.invariant.same c.count_to_point-len.result c.count_to_point-len.ensures.within c.count_to_point-len.ensures.same (c.count_to_point-len.ensures.point c.if-len-gt0.true) in
    c.lsn.ensures ∙ sym (ap last_lsn (found.1 ∙ last-taken read c.count_to_point-len.result c.index-packets-len.result c.if-len-gt0.true c.count_to_point-len.ensures.within c.index-packets-len.is _))

pub loop-place-preserved : goal.loop-place-preserved
loop-place-preserved c =
    let place : ℕ = c.loop-place.place in
    record {
      within = omega arith;
      counted = before-counted c.runs-runs.result.now (records_of c.args.set.now) place (place - 1) c.loop-place.count c.index-runs-place.result c.as_slice-packets.result.now c.runs-runs.ensures (omega arith) (omega arith) c.index-runs-place.is c.as_slice-packets.ensures.records
          c.loop-place.invariant.counted c.loop-place.invariant.same;
      same = point-earlier c.runs-runs.result.now (records_of c.args.set.now) place (place - 1) c.loop-place.count c.index-runs-place.result c.as_slice-packets.result.now c.runs-runs.ensures (omega arith) (omega arith) c.index-runs-place.is c.as_slice-packets.ensures.records
          c.loop-place.invariant.counted c.loop-place.invariant.same c.count_to_point-len.result (omega arith) c.count_to_point-len.ensures.same;
    }
