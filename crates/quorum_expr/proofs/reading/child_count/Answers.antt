use Rattle.std.proofs.Common.{min}
use Rattle.quorum_expr.proofs.NodeForms.{few_listed}
use Rattle.quorum_expr.proofs.reading.child_count.Goals as goal
use Rattle.std.proofs.lemmas.Grind.{common_steps}
use Rattle.std.proofs.Common.{arith}

pub returns-in-Named : goal.returns-in-Named
returns-in-Named g c = grind (arith, common_steps, c.from.ensures, c.len.ensures, c.named.ensures, c.in-Named.is, few_listed, min)
