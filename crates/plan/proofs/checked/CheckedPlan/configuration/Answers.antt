use Rattle.plan.proofs.Shown.{shows-at}
use Rattle.plan.proofs.checked.CheckedPlan.configuration.Goals as goal
use Rattle.std.proofs.lemmas.Grind.{common_steps}
use Rattle.std.proofs.Common.{arith}

pub returns : goal.returns
returns c = grind (arith, common_steps, c.deref.ensures.value, c.from.ensures, c.in_ok-group.ensures.lookup.3.0, c.in_ok-group.ensures.lookup.1, c.deref-2.ensures.value, c.from-2.ensures, c.get-2.ensures.lookup, shows-at)
