use Rattle.plan.proofs.Made.{made-configuration}
use Rattle.plan.proofs.Putting.{then_put}
use Rattle.plan.proofs.written.put_configuration.Goals as goal
use Rattle.std.proofs.Common.{rules}

pub returns-in-Ok : goal.returns-in-Ok
returns-in-Ok c = search (rules, c.put_fields.ensures, c.in-Ok.ensures, then_put, made-configuration)
