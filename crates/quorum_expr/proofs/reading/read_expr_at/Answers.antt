use Rattle.std.proofs.Common.{arith}
use Rattle.std.proofs.lemmas.Bool.Decides.{nat_tests}
use Rattle.quorum_expr.proofs.ReadingLaws.{valid_read}
use Rattle.quorum_expr.proofs.reading.read_expr_at.Goals as goal
use Rattle.std.proofs.lemmas.Grind.{common_steps}

pub returns-clause-valid : goal.returns-clause-valid
returns-clause-valid g c = grind (arith, common_steps, c.in_ok-expr.ensures.counted, c.in_ok-expr.ensures.read, nat_tests, valid_read)
