use Rattle.std.proofs.Common.{map, sym, subst}
use Rattle.volume_model.specs.Common.{later_group}
use Rattle.volume_model.proofs.Groups.{later_group-none}
use Rattle.wire.specs.Common.{place_of}
use Rattle.writer_core.specs.GroupStates.{ArePlaced}
use Rattle.writer_core.specs.Groups.{groups_in, group_states_plan}
use Rattle.writer_core.proofs.Placing.{later-moves, moved-items, moved-within, with_places-placed}
use Rattle.writer_core.proofs.group_states.GroupStates.follow.Goals as goal

pub invariant_of-self-2 : goal.invariant_of-self-2
invariant_of-self-2 c =
    let self = c.args.self.now in
    let now = moved-items later_group self.list.items c.extend.new.group_states _ c.follow.new.group_states c.args.places.now c.in_ok-extend.ensures.more c.as_mut_slice.ensures.value c.follow.ensures.moved c.follow.ensures.many in
    record {
      within = moved-within (group_states_plan self) later_group self.list.items _ _ self.within c.requires now;
      placed = subst (ArePlaced (group_states_plan self)) (sym now) (with_places-placed (group_states_plan self) later_group later-moves later_group-none (groups_in self) (map place_of c.args.places.now) c.requires self.placed);
    }

pub returns-clause-groups : goal.returns-clause-groups
returns-clause-groups c = moved-items later_group c.args.self.now.list.items c.extend.new.group_states _ c.follow.new.group_states c.args.places.now c.in_ok-extend.ensures.more c.as_mut_slice.ensures.value c.follow.ensures.moved c.follow.ensures.many
