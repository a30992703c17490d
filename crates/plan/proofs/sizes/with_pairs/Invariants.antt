use Rattle.std.proofs.Common.{take, All}
use Rattle.refutation.specs.Common.{IsPairInRange}
use Rattle.plan.proofs.sizes.with_pairs.Given as goal

abbrev pub invariant-loop-pair : goal.invariant-loop-pair
invariant-loop-pair l = All IsPairInRange (take l.pair-index l.pairs)
