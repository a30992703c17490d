use Rattle.std.proofs.Common.{◌≡◌, ◌<◌, length, ap, ◌∙◌}
use Rattle.std.proofs.lemmas.List.{map-set}
use Rattle.plan.specs.declared.checked.CheckedPlan.{CheckedPlan}
use Rattle.plan.specs.Common.{checked_model}
use Rattle.volume_model.specs.Common.{raised_group}
use Rattle.writer_core.specs.Groups.{group_states_plan}
use Rattle.writer_core.specs.GroupStates.{group_at}
use Rattle.writer_core.proofs.Placing.{group-is, placed-set, changed, changed-within}
use Rattle.writer_core.proofs.group_states.GroupStates.raise_group.Goals as goal
use Rattle.std.proofs.lemmas.Grind.{common_steps}
use Rattle.std.proofs.Common.{arith}

pub invariant_of-self : goal.invariant_of-self
invariant_of-self c = grind (arith, common_steps, c.in-Some.ensures.item.3.0, c.raise.ensures, c.in-Some.ensures.value, group-is, changed-within, map-set, placed-set)

pub returns-in-Some-clause-groups : goal.returns-in-Some-clause-groups
returns-in-Some-clause-groups c =
    let self = c.args.self.now in
    let plan = group_states_plan self in
    let list = self.list.items in
    let i = c.from.result in
    let s = c.in-Some.group_state.now in
    let group = c.args.group in
    let within : i < length list = c.in-Some.ensures.item.3.0 in
    let raised : group_at c.raise.new.self ≡ raised_group plan group (group_at s) = c.raise.ensures ∙ ap (λ (p : CheckedPlan). raised_group (checked_model p) group (group_at s)) c.deref.ensures in
    changed (raised_group plan group) list i group s c.raise.new.self within c.in-Some.ensures.value c.from.ensures raised
