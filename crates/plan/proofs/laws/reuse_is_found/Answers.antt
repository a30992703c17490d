use Rattle.plan.proofs.Reused.{reuse_is_found as the_law}
use Rattle.plan.proofs.laws.reuse_is_found.Goals as goal

pub returns : goal.returns
returns c = the_law
