use Rattle.std.proofs.Common.{◌≡◌, ℕ, ◌≤◌, true, List, sym, ap, ◌∙◌, subst, arith}
use Rattle.volume_model.specs.Common.{ClientGroup, group_of, group_point_of, raised}
use Rattle.writer_core.specs.GroupStates.{counted_in}
use Rattle.writer_core.specs.Raised.{AreRaised, HaveJoined, raised_in}
use Rattle.writer_core.specs.Groups.{groups_in, group_states_plan}
use Rattle.writer_core.specs.Log.{packets_in}
use Rattle.writer_core.specs.DurabilityTracker.{CoversLog}
use Rattle.writer_core.specs.Writers.{client_of}
use Rattle.writer_core.proofs.Acknowledging.{ack_counted}
use Rattle.writer_core.proofs.Covering.{covers-raised, covers-same}
use Rattle.writer_core.proofs.Raising.{raised-same, raised-counted, raised_all, joined_all, counted_raised, counted_joined, group_point_of-counted_in, joined-counted_in}
use Rattle.writer_core.proofs.Rising.{group_point_of-counted}
use Rattle.writer_core.proofs.writer.Writer.take_ack.Goals as goal
use Rattle.writer_core.proofs.writer.Writer.take_ack.Goals.{After-raise_group}
use Rattle.std.proofs.lemmas.Grind.{common_steps}
use Rattle.std.proofs.Common.{rules}

-- ---- memory ran out

pub invariant_of-self : goal.invariant_of-self
invariant_of-self c =
    let self = c.args.self.now in
    let plan = group_states_plan self.group_states in
    let old = groups_in self.group_states in
    let same : groups_in c.count.new.self ≡ old = c.in_err-count.ensures.same in
    record {
      assigned = self.assigned;
      raised = subst (λ p. AreRaised p (groups_in c.count.new.self)) (sym c.in_err-count.ensures.plan) (subst (AreRaised plan) (sym same) self.raised);
      joined = subst (λ p. HaveJoined p (groups_in c.count.new.self)) (sym c.in_err-count.ensures.plan) (subst (HaveJoined plan) (sym same) self.joined);
      lasts = self.lasts;
      covers = subst (λ (gs : List ClientGroup). CoversLog self.durability (group_point_of gs) (packets_in self.log)) (sym same) self.covers;
    }

-- ---- its complete point isn't above its group's point, and the group has joined

pub invariant_of-self-then-has_joined : goal.invariant_of-self-then-has_joined
invariant_of-self-then-has_joined c =
    let self = c.args.self.now in
    let ack = c.args.ack.now in
    let plan = group_states_plan self.group_states in
    let old = groups_in self.group_states in
    let counted = c.in_ok-count.ensures.counted in
    let low : ack.scl ≤ group_point_of old ack.group = omega (arith, c.if-ack-point.true, c.point.ensures ∙ ap (λ gs. group_point_of gs ack.group) counted ∙ group_point_of-counted_in old ack.group ack.from ack.scl ack.group) in
    let there : (group_of old ack.group).joined ≡ true = sym (joined-counted_in old ack.group ack.from ack.scl ack.group) ∙ sym (c.has_joined.ensures ∙ ap (λ gs. (group_of gs ack.group).joined) counted) ∙ c.if-has_joined.true in
    record {
      assigned = self.assigned;
      raised = subst (λ p. AreRaised p (groups_in c.count.new.self)) (sym c.in_ok-count.ensures.plan)
          (subst (AreRaised plan) (sym counted) (counted_raised plan old ack.group ack.from ack.scl self.raised low));
      joined = subst (λ p. HaveJoined p (groups_in c.count.new.self)) (sym c.in_ok-count.ensures.plan)
          (subst (HaveJoined plan) (sym counted) (counted_joined plan old ack.group ack.from ack.scl self.joined there));
      lasts = self.lasts;
      covers = search (rules, covers-same, group_point_of-counted_in);
    }

pub returns-then-has_joined-clause-answers : goal.returns-then-has_joined-clause-answers
returns-then-has_joined-clause-answers c =
    let self = c.args.self.now in
    let ack = c.args.ack.now in
    let plan = group_states_plan self.group_states in
    let old = groups_in self.group_states in
    let client = client_of self in
    let counted = c.in_ok-count.ensures.counted in
    let low : ack.scl ≤ group_point_of old ack.group = omega (arith, c.if-ack-point.true, c.point.ensures ∙ ap (λ gs. group_point_of gs ack.group) counted ∙ group_point_of-counted_in old ack.group ack.from ack.scl ack.group) in
    let there : (group_of old ack.group).joined ≡ true = sym (joined-counted_in old ack.group ack.from ack.scl ack.group) ∙ sym (c.has_joined.ensures ∙ ap (λ gs. (group_of gs ack.group).joined) counted) ∙ c.if-has_joined.true in
    let all : groups_in c.count.new.self ≡ raised plan (counted_in old ack.group ack.from ack.scl) = grind (arith, common_steps, raised-same, counted_raised, counted_joined, (counted_raised plan old ack.group ack.from ack.scl self.raised low), (counted_joined plan old ack.group ack.from ack.scl self.joined there)) in
    grind (arith, common_steps)

-- ---- it is above, or the group hasn't joined

now : (c : After-raise_group) → groups_in c.raise_group.new.self
    ≡ raised (group_states_plan c.args.self.now.group_states) (counted_in (groups_in c.args.self.now.group_states) c.args.ack.now.group c.args.ack.now.from c.args.ack.now.scl)
now c =
    let self = c.args.self.now in
    let ack = c.args.ack.now in
    raised-counted (group_states_plan self.group_states) (groups_in self.group_states) (groups_in c.count.new.self) (groups_in c.raise_group.new.self) ack.group ack.from ack.scl self.raised self.joined c.in_ok-count.ensures.counted
    (c.raise_group.ensures.groups ∙ ap (λ p. raised_in p (groups_in c.count.new.self) ack.group) c.in_ok-count.ensures.plan)

pub follow-requires : goal.follow-requires
follow-requires c = grind (arith, common_steps, now, ℕ, After-raise_group, group_point_of-counted, covers-raised)

pub invariant_of-self-2-clause-raised : goal.invariant_of-self-2-clause-raised
invariant_of-self-2-clause-raised c =
    raised_all _ _ _ _ (c.raise_group.ensures.plan ∙ c.in_ok-count.ensures.plan) (now (goal.at.invariant_of-self-2-clause-raised c).After-raise_group)

pub invariant_of-self-2-clause-joined : goal.invariant_of-self-2-clause-joined
invariant_of-self-2-clause-joined c =
    joined_all _ _ _ _ (c.raise_group.ensures.plan ∙ c.in_ok-count.ensures.plan) (now (goal.at.invariant_of-self-2-clause-joined c).After-raise_group)

pub returns-clause-answers : goal.returns-clause-answers
returns-clause-answers c = grind (arith, common_steps, c.in_ok-admits_ack.ensures.can, c.if-ack-epoch.false, c.epoch.ensures, now, ack_counted, After-raise_group)
