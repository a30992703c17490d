use Rattle.std.proofs.Common.{◌≡◌, ℕ, List, map, sym, ap, ◌∙◌, subst}
use Rattle.volume_model.specs.Common.{ClientGroup, group_point_of, raised, with_places, later_group}
use Rattle.wire.specs.Common.{place_of}
use Rattle.writer_core.specs.Groups.{groups_in, group_states_plan}
use Rattle.writer_core.specs.Log.{packets_in}
use Rattle.writer_core.specs.DurabilityTracker.{CoversLog}
use Rattle.writer_core.specs.Raised.{AreRaised, HaveJoined}
use Rattle.writer_core.specs.Writers.{client_of}
use Rattle.writer_core.proofs.Covering.{covers-raised}
use Rattle.writer_core.proofs.Raising.{raised_all, joined_all}
use Rattle.writer_core.proofs.Rising.{group_point_of-with_places}
use Rattle.writer_core.proofs.Views.{installs-listed, view-writing}
use Rattle.writer_core.proofs.writer.Writer.view.Goals as goal
use Rattle.std.proofs.lemmas.Grind.{common_steps}
use Rattle.std.proofs.Common.{arith}
use Rattle.std.proofs.Common.{rules}

-- ---- memory ran out

pub invariant_of-self-in-Break-branch-3 : goal.invariant_of-self-in-Break-branch-3
invariant_of-self-in-Break-branch-3 c =
    let self = c.args.self.now in
    let plan = group_states_plan self.group_states in
    let same : groups_in c.follow.new.self ≡ groups_in self.group_states = c.in_err-follow.ensures.same in
    record {
      assigned = self.assigned;
      raised = subst (λ p. AreRaised p (groups_in c.follow.new.self)) (sym c.in_err-follow.ensures.plan) (subst (AreRaised plan) (sym same) self.raised);
      joined = subst (λ p. HaveJoined p (groups_in c.follow.new.self)) (sym c.in_err-follow.ensures.plan) (subst (HaveJoined plan) (sym same) self.joined);
      lasts = self.lasts;
      covers = subst (λ (gs : List ClientGroup). CoversLog self.durability (group_point_of gs) (packets_in self.log)) (sym same) self.covers;
    }

-- ---- the groups are moved and raised

pub follow-requires-2 : goal.follow-requires-2
follow-requires-2 c = grind (arith, common_steps, c.raise.ensures.groups, c.in_ok-follow.ensures.groups, ℕ, group_point_of-with_places, covers-raised)

pub invariant_of-self-2-clause-raised : goal.invariant_of-self-2-clause-raised
invariant_of-self-2-clause-raised c = search (rules, c.raise.ensures.plan, c.raise.ensures.groups, raised_all)

pub invariant_of-self-2-clause-joined : goal.invariant_of-self-2-clause-joined
invariant_of-self-2-clause-joined c = search (rules, c.raise.ensures.plan, c.raise.ensures.groups, joined_all)

pub returns-clause-answers : goal.returns-clause-answers
returns-clause-answers c =
    let self = c.args.self.now in
    let view = c.args.view.now in
    let plan = group_states_plan self.group_states in
    let old = groups_in self.group_states in
    let client = client_of self in
    let same = c.as_slice-places.ensures.value ∙ ap (λ v. v.items) c.deref.ensures in
    let new : groups_in c.raise.new.self ≡ raised plan (with_places later_group old (map place_of view.places.value.items)) = grind (arith, common_steps) in
    search (rules, c.in_ok-admits_view.ensures.epoch, c.in_ok-admits_view.ensures.places, c.in_ok-messages.ensures, view-writing, installs-listed)
