use Rattle.std.proofs.Common.{Some, None}
use Rattle.writer_core.proofs.Joined.{issued-grows, at-found, at-issued, growing-same, log_of-set, found-grows}
use Rattle.writer_core.proofs.log.Log.record_at.Goals as goal
use Rattle.std.proofs.lemmas.Grind.{common_steps}
use Rattle.std.proofs.Common.{arith}

pub record_at-requires-in-None : goal.record_at-requires-in-None
record_at-requires-in-None c = grind (arith, common_steps, c.as_slice.ensures.value, issued-grows)

pub returns-in-Some : goal.returns-in-Some
returns-in-Some c = grind (arith, common_steps, c.in-Some.ensures, log_of-set, found-grows, Some, growing-same, at-found)

pub returns-in-None : goal.returns-in-None
returns-in-None c = grind (arith, common_steps, c.in-None.ensures, c.record_at-in-None.ensures, c.as_slice.ensures.value, log_of-set, found-grows, None, growing-same, at-issued)
