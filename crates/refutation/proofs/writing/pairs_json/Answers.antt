use Rattle.std.proofs.Common.{◌∙◌, ap, sym, length, take, ◌≤◌, arith, take_all}
use Rattle.std.proofs.lemmas.Grind.{common_steps}
use Rattle.std.proofs.lemmas.List.Elements.{All-more, All-same}
use Rattle.serde_json.specs.View.{items_of}
use Rattle.quorum_expr.proofs.Rebuilt.{finish}
use Rattle.refutation.specs.Ranges.{IsPairInRange}
use Rattle.refutation.specs.Writing.{pair_data}
use Rattle.refutation.proofs.Written.{pairs-are}
use Rattle.refutation.proofs.writing.pairs_json.Goals as goal

pub loop-pair-preserved : goal.loop-pair-preserved
loop-pair-preserved c = record {
  written = grind (arith, common_steps);
  ranges = All-more IsPairInRange c.args.pairs.now c.loop-pair.pair-index _ c.loop-pair-test.true c.loop-pair.invariant.ranges c.pair_json.ensures.range;
}

pub returns-clause-written : goal.returns-clause-written
returns-clause-written c = ap items_of (finish pair_data c.args.pairs.now c.loop-pair.pair-index _ _ c.loop-pair-test.false c.loop-pair.invariant.written) ∙ pairs-are c.args.pairs.now

pub returns-clause-ranges : goal.returns-clause-ranges
returns-clause-ranges c =
    let past : length c.args.pairs.now ≤ c.loop-pair.pair-index = omega arith in
    All-same IsPairInRange c.args.pairs.now (take c.loop-pair.pair-index c.args.pairs.now) (sym (take_all c.loop-pair.pair-index c.args.pairs.now past)) c.loop-pair.invariant.ranges
