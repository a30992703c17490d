use Rattle.std.proofs.Common.{◌∙◌, ap, sym, length, take, ◌≤◌, arith, take_all}
use Rattle.std.proofs.lemmas.Grind.{common_steps, elements}
use Rattle.std.proofs.lemmas.List.Elements.{All-same}
use Rattle.serde_json.specs.View.{items_of}
use Rattle.quorum_expr.proofs.Rebuilt.{finish}
use Rattle.refutation.specs.Writing.{number_data}
use Rattle.refutation.proofs.Written.{numbers-are}
use Rattle.refutation.proofs.writing.numbers_json.Goals as goal

pub loop-number-preserved : goal.loop-number-preserved
loop-number-preserved c = record {
  written = grind (arith, common_steps);
  ranges = grind (arith, elements);
}

pub returns-clause-written : goal.returns-clause-written
returns-clause-written c = ap items_of (finish number_data c.args.numbers.now c.loop-number.number-index _ _ c.loop-number-test.false c.loop-number.invariant.written) ∙ numbers-are c.args.numbers.now

pub returns-clause-ranges : goal.returns-clause-ranges
returns-clause-ranges c =
    let past : length c.args.numbers.now ≤ c.loop-number.number-index = omega arith in
    All-same (λ n. n ≤ 255) c.args.numbers.now (take c.loop-number.number-index c.args.numbers.now) (sym (take_all c.loop-number.number-index c.args.numbers.now past)) c.loop-number.invariant.ranges
