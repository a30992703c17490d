use Rattle.std.proofs.Common.{max, slice_set}
use Rattle.std.proofs.lemmas.List.{get_or_default, map-set}
use Rattle.writer_core.proofs.counts.add.Goals as goal
use Rattle.std.proofs.lemmas.Grind.{common_steps}
use Rattle.std.proofs.Common.{arith}

pub returns-in-Some-clause-counted : goal.returns-in-Some-clause-counted
returns-in-Some-clause-counted c = grind (arith, common_steps, c.as_slice.ensures.value, c.in-Some.ensures, c.index.ensures, c.index_mut.ensures.value, c.max.ensures, get_or_default, max, map-set, slice_set)
