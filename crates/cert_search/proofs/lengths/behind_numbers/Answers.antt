use Rattle.std.proofs.Common.{◌+◌, ◌-◌, ◌∙◌, ap, drop}
use Rattle.cert_search.specs.Lengths.{numbers_length}
use Rattle.cert_search.proofs.Rooms.{number_step, no_number}
use Rattle.cert_search.proofs.lengths.behind_numbers.Goals as goal

pub loop-number-preserved : goal.loop-number-preserved
loop-number-preserved c =
    ap (λ n. n - numbers_length (drop (c.loop-number.number-index + 1) c.args.numbers.now)) c.behind_number-left.ensures
    ∙ number_step c.args.numbers.now c.loop-number.number-index c.loop-number.left c.from.result c.loop-number-test.true c.from.ensures ∙ c.loop-number.invariant

pub returns : goal.returns
returns c = no_number c.args.numbers.now c.loop-number.number-index c.loop-number.left _ c.loop-number-test.false c.loop-number.invariant
