use Rattle.std.proofs.Common.{arith}
use Rattle.quorum_checker.proofs.Sums.{weight-some, weight-none}
use Rattle.quorum_checker.proofs.weights.weight_of.Goals as goal
use Rattle.std.proofs.lemmas.Grind.{common_steps}

pub returns-in-Some-clause-is : goal.returns-in-Some-clause-is
returns-in-Some-clause-is g c = grind (arith, common_steps, c.wide.ensures.same, c.from.ensures, c.in-Some.ensures.lookup.3.0, c.in-Some.ensures.lookup.1, weight-some)

pub returns-in-None-clause-is : goal.returns-in-None-clause-is
returns-in-None-clause-is g c = grind (arith, common_steps, c.from.ensures, c.in-None.ensures.lookup.3, weight-none)
