use Rattle.std.proofs.Common.{ℕ, Bool, ap}
use Rattle.volume_model.specs.Common.{sat, Plan, senders, ClientGroup, place_configuration}
use Rattle.plan.specs.Common.{checked_model}
use Rattle.writer_core.specs.Groups.{group_states_plan}
use Rattle.writer_core.proofs.Placing.{group-fails}
use Rattle.writer_core.proofs.group_states.GroupStates.has_read.Goals as goal

-- the group passes
abbrev test : Plan → ℕ → ClientGroup → Bool
test plan number group = sat (place_configuration plan number group.place).read (senders group.reports)

pub returns-then-not-has_read : goal.returns-then-not-has_read
returns-then-not-has_read c =
    let self = c.args.self.now in
    group-fails test (group_states_plan self) _ self.list.items _ c.loop-group.group c.group_state-item.result _ c.deref-group_state-items.ensures.value (ap checked_model c.deref.ensures) c.loop-group-test.true c.group_state-item.is c.has_read.ensures c.if-not-has_read.true
