use Rattle.std.proofs.Common.{◌∙◌, sym, length, ◌<◌, ◌&&◌, nat_lt, arith}
use Rattle.std.specs.FinSet.{contains}
use Rattle.plan.specs.PlanData.{configuration_at}
use Rattle.plan.specs.Plan.{group_data}
use Rattle.plan.proofs.Lookups.{some_below-found, some_below-more, named-at}
use Rattle.plan.proofs.configurations.Group.names.Goals as goal
use Rattle.std.proofs.lemmas.Grind.{common_steps}

pub returns-then-contains : goal.returns-then-contains
returns-then-contains c =
    let within : c.loop-configuration.configuration-index < length (group_data c.args.self.now) = grind (arith, common_steps) in
    sym (some_below-found (length (group_data c.args.self.now)) c.loop-configuration.configuration-index
    (λ k. nat_lt c.args.member 64 && contains (configuration_at (group_data c.args.self.now) k).members c.args.member) within
    (named-at _ _ c.loop-configuration.configuration-index c.args.member c.configuration-item.result _ c.deref-configuration-items.ensures.value c.loop-configuration-test.true c.configuration-item.is c.contains.ensures.is_in c.contains.ensures.below
    ∙ c.if-contains.true))

pub loop-configuration-preserved : goal.loop-configuration-preserved
loop-configuration-preserved c = grind (arith, common_steps, c.deref-configuration-items.ensures.value, c.loop-configuration-test.true, c.configuration-item.is, c.contains.ensures.is_in, c.contains.ensures.below, c.if-contains.false, c.loop-configuration.invariant, some_below-more, named-at)
