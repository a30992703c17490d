use Rattle.std.proofs.Common.{arith}
use Rattle.std.proofs.lemmas.List.{map-set}
use Rattle.writer_core.proofs.Placing.{group-is, placed-set, raised-more}
use Rattle.writer_core.proofs.places.raise.Goals as goal
use Rattle.std.proofs.lemmas.Grind.{common_steps}

pub loop-group-preserved : goal.loop-group-preserved
loop-group-preserved c = grind (arith, common_steps, c.index-group_states-group.is, c.loop-group-test.true, c.loop-group.auto.group_states, c.raise.ensures, c.loop-group.invariant.placed, c.loop-group.invariant.raised, group-is, map-set, placed-set, raised-more)
