use Rattle.quorum_expr.proofs.NodeForms.{capped}
use Rattle.quorum_expr.proofs.reading.is_good_threshold.Goals as goal
use Rattle.std.proofs.lemmas.Grind.{common_steps}
use Rattle.std.proofs.Common.{arith}

pub returns-clause-good : goal.returns-clause-good
returns-clause-good g c = grind (arith, common_steps, c.is_good_row.ensures.good, c.child_count.ensures, capped)
