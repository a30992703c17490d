use Rattle.plan.proofs.Named.{full-shown, no-full}
use Rattle.plan.proofs.checked.CheckedPlan.is_full.Goals as goal

pub returns-in-Some : goal.returns-in-Some
returns-in-Some c = full-shown c.in-Some.configuration.now _ c.args.member c.contains.result c.in-Some.ensures.2 c.contains.ensures.is_in c.contains.ensures.below

pub returns-in-None : goal.returns-in-None
returns-in-None c = no-full c.args.self.now.plan c.args.group c.args.configuration c.args.member c.in-None.ensures
