use Rattle.std.proofs.Common.{ℕ, min, arith}
use Rattle.redo_record.proofs.RunLists.{take-rest}
use Rattle.writer_core.proofs.Joined.{drop-behind}
use Rattle.writer_core.proofs.log.Log.records_from.Goals as goal
use Rattle.std.proofs.lemmas.Grind.{common_steps}

pub returns-else-place-self : goal.returns-else-place-self
returns-else-place-self c = grind (arith, common_steps, c.deref-else-place-self.ensures.value, c.min-place.ensures, c.len.ensures, c.deref-else-place-self.ensures.len, c.none.ensures, ℕ, min, take-rest, drop-behind)
