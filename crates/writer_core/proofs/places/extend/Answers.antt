use Rattle.std.proofs.Common.{arith}
use Rattle.std.proofs.lemmas.List.{length_push}
use Rattle.writer_core.proofs.OneMore.{front_on}
use Rattle.writer_core.proofs.Placing.{taken-up}
use Rattle.writer_core.proofs.places.extend.Goals as goal
use Rattle.std.proofs.lemmas.Grind.{common_steps}

pub more-preserved : goal.more-preserved
more-preserved c = grind (arith, common_steps, c.in_default.ensures.items, c.more.invariant.within, c.more-test.true, c.len.ensures, c.at.ensures, c.more.invariant.more, c.more.invariant.front, length_push, taken-up, front_on)

pub returns-clause-more : goal.returns-clause-more
returns-clause-more c = grind (arith, common_steps)
