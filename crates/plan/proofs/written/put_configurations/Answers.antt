use Rattle.std.proofs.Common.{arith}
use Rattle.plan.proofs.Made.{makes_more, makes_done, made-next}
use Rattle.plan.proofs.Putting.{then_put}
use Rattle.plan.proofs.written.put_configurations.Goals as goal
use Rattle.std.proofs.lemmas.Grind.{common_steps}
use Rattle.std.proofs.Common.{rules}

pub configurations-init : goal.configurations-init
configurations-init c = grind (arith, common_steps)

pub configurations-preserved : goal.configurations-preserved
configurations-preserved c = grind (arith, common_steps, c.in_ok-put_configuration.ensures, c.configurations.invariant.made, c.in-Some.ensures, makes_more, made-next)

pub returns : goal.returns
returns c = search (rules, c.close_array.ensures, c.configurations.invariant.made, c.in_default.ensures, then_put, makes_done)
