use Rattle.std.proofs.Common.{codes}
use Rattle.plan.proofs.PutRules.{with_key}
use Rattle.plan.proofs.Putting.{then_put, opened}
use Rattle.plan.proofs.certificates.begin_split.Goals as goal
use Rattle.std.proofs.lemmas.Grind.{common_steps}
use Rattle.std.proofs.Common.{arith}

pub returns : goal.returns
returns c = grind (arith, common_steps, c.put_key.ensures, c.in_ok-open_object.ensures, then_put, with_key, codes, opened)
