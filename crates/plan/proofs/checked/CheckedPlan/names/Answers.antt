use Rattle.std.proofs.Common.{◌∙◌}
use Rattle.plan.proofs.Named.{names-in}
use Rattle.plan.proofs.checked.CheckedPlan.names.Goals as goal

pub returns-in-Some : goal.returns-in-Some
returns-in-Some c =
    c.names.ensures
    ∙ names-in c.args.self.now.plan c.deref.result.now c.from.result c.args.group c.args.member c.in-Some.group.now c.deref.ensures.value c.from.ensures c.in-Some.ensures.lookup.3.0 c.in-Some.ensures.lookup.1
