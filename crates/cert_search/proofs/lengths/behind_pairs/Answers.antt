use Rattle.std.proofs.Common.{◌+◌, ◌-◌, ◌∙◌, ap, drop}
use Rattle.cert_search.specs.Lengths.{pairs_length}
use Rattle.cert_search.proofs.Rooms.{pair_step, no_pair}
use Rattle.cert_search.proofs.lengths.behind_pairs.Goals as goal

pub loop-pair-preserved : goal.loop-pair-preserved
loop-pair-preserved c =
    ap (λ n. n - pairs_length (drop (c.loop-pair.pair-index + 1) c.args.pairs.now)) c.behind_items-left.ensures
    ∙ pair_step c.args.pairs.now c.loop-pair.pair-index c.loop-pair.left c.from.result c.from-in-loop-pair.result c.loop-pair-test.true c.from.ensures c.from-in-loop-pair.ensures ∙ c.loop-pair.invariant

pub returns : goal.returns
returns c = no_pair c.args.pairs.now c.loop-pair.pair-index c.loop-pair.left _ c.loop-pair-test.false c.loop-pair.invariant
