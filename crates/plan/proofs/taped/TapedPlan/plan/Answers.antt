use Rattle.plan.proofs.TapeTexts.{plan-is}
use Rattle.plan.proofs.taped.TapedPlan.plan.Goals as goal
use Rattle.std.proofs.lemmas.Grind.{common_steps}
use Rattle.std.proofs.Common.{arith}

pub returns : goal.returns
returns c = grind (arith, common_steps, c.self.invariant, c.readable_root-root.ensures, c.read_plan_at.ensures, plan-is)

pub readable_root-root-requires : goal.readable_root-root-requires
readable_root-root-requires c = c.self.invariant.readable
