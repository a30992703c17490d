use Rattle.std.proofs.lemmas.List.{get_or_default}
use Rattle.writer_core.proofs.Counting.{kept-here}
use Rattle.writer_core.proofs.counts.place_of.Goals as goal
use Rattle.std.proofs.lemmas.Grind.{common_steps}
use Rattle.std.proofs.Common.{arith}

pub returns-then-counts-place : goal.returns-then-counts-place
returns-then-counts-place c = grind (arith, common_steps, c.loop-place-test.true, c.index-counts-place.is, c.if-counts-place.true, c.loop-place.invariant, get_or_default, kept-here)
