use Rattle.std.proofs.Common.{IfOk, arith, subst}
use Rattle.plan_edit.specs.Words.{AddsPair, AddsWeights}
use Rattle.plan_edit.specs.declared.word_reading.Weights.{Weights}
use Rattle.plan_edit.proofs.WeightLaws.{weighs_last, weighs_more}
use Rattle.plan_edit.proofs.word_reading.+with_pairs.Goals as goal

pub returns-in-None : goal.returns-in-None
returns-in-None t c =
    weighs_last c.args.text.now c.args.weights.members c.args.weights.of c.with_pair.result (c.in-None.ensures.byte (omega arith) (λ w o found. found)) c.with_pair.ensures

pub returns-in_ok-more-in-Some : goal.returns-in_ok-more-in-Some
returns-in_ok-more-in-Some t c =
    let parts = c.in-Some.ensures.byte (omega arith) (λ w o found. found) in
    weighs_more c.args.text.now c.args.weights.members c.in_ok-more-in-Some.more.members c.args.weights.of c.in_ok-more-in-Some.more.of c.with_pairs.result parts.2
    (subst (λ w. AddsPair w c.args.weights.members c.args.weights.of c.in_ok-more-in-Some.more.members c.in_ok-more-in-Some.more.of) parts.0 c.in_ok-more-in-Some.ensures)
    (subst (λ w. IfOk c.with_pairs.result (λ (x : Weights). AddsWeights w c.in_ok-more-in-Some.more.members c.in_ok-more-in-Some.more.of x.of)) parts.1 c.with_pairs.ensures)
