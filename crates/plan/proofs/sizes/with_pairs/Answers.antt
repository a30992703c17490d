use Rattle.std.proofs.lemmas.List.Elements.{All-more}
use Rattle.refutation.specs.Common.{IsPairInRange}
use Rattle.plan.proofs.Rooms.{all_through}
use Rattle.plan.proofs.sizes.with_pairs.Goals as goal

pub loop-pair-preserved : goal.loop-pair-preserved
loop-pair-preserved c = All-more IsPairInRange c.args.pairs.now c.loop-pair.pair-index _ c.loop-pair-test.true c.loop-pair.invariant c.with_pair-room.ensures

pub returns : goal.returns
returns c = all_through IsPairInRange c.args.pairs.now c.loop-pair.pair-index c.loop-pair-test.false c.loop-pair.invariant
