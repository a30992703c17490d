use Rattle.plan.proofs.Named.{shown-member, no-root}
use Rattle.plan.proofs.checked.CheckedPlan.is_root_member.Goals as goal
use Rattle.std.proofs.Common.{rules}

pub returns-in-Some : goal.returns-in-Some
returns-in-Some c = search (rules, c.in-Some.ensures.0, c.in-Some.ensures.2, c.contains.ensures.is_in, c.contains.ensures.below, shown-member)

pub returns-in-None : goal.returns-in-None
returns-in-None c = no-root c.args.self.now.plan c.args.group _ c.in-None.ensures
