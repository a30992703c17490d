use Rattle.std.proofs.Common.{◌∙◌, ap, sym, arith}
use Rattle.volume_model.specs.Common.{Redo}
use Rattle.recovery.specs.Chains.{up_to_point}
use Rattle.recovery.proofs.OneChain.{last-taken, point-here, point-before}
use Rattle.recovery.proofs.one_chain.count_to_point.Goals as goal

pub returns-then-record-clause-point : goal.returns-then-record-clause-point
returns-then-record-clause-point c some older =
    let taken = last-taken c.args.packets.now c.loop-count.count c.index-packets-count.result c.loop-count-test.true c.loop-count.invariant.within c.index-packets-count.is older in
    ap up_to_point taken ∙ point-here _ _ (ap (λ (r : Redo). r.point) (sym c.«record».ensures) ∙ c.if-record.true) ∙ sym taken

pub loop-count-preserved : goal.loop-count-preserved
loop-count-preserved c = record {
  within = omega arith;
  same = λ older.
      let taken = last-taken c.args.packets.now c.loop-count.count c.index-packets-count.result c.loop-count-test.true c.loop-count.invariant.within c.index-packets-count.is older in
      c.loop-count.invariant.same older ∙ ap up_to_point taken ∙ point-before _ _ (ap (λ (r : Redo). r.point) (sym c.«record».ensures) ∙ c.if-record.false);
}
