use Rattle.std.proofs.Common.{◌≡◌, map, true, ap, ◌∙◌}
use Rattle.volume_model.specs.Common.{later_group, reread_group, with_places}
use Rattle.wire.specs.Common.{place_of, messages_of}
use Rattle.writer_core.specs.Groups.{groups_in, group_states_plan}
use Rattle.recovery.specs.Cuts.{are_older}
use Rattle.recovery.proofs.Older.{older-later, older-reread}
use Rattle.recovery.proofs.Views.{either, view-reading, view-installing}
use Rattle.recovery.proofs.recovery.Recovery.view.Goals as goal

pub invariant_of-self-in-None-clause-older : goal.invariant_of-self-in-None-clause-older
invariant_of-self-in-None-clause-older c =
    let self = c.args.self.now in
    let groups = groups_in self.group_states in
    let places = map place_of c.as_slice-places.result.now in
    either c.reread.result (λ gs. are_older self.volume gs ≡ true) (groups_in c.reread.new.self) (with_places reread_group groups places) groups c.reread.ensures.groups c.reread.ensures.same
    (older-reread self.volume groups places self.older) self.older

pub returns-in_ok-reread-in-None-clause-answers : goal.returns-in_ok-reread-in-None-clause-answers
returns-in_ok-reread-in-None-clause-answers c =
    let self = c.args.self.now in
    view-reading (group_states_plan self.group_states) self.volume c.args.view.now.volume (groups_in self.group_states) (groups_in c.reread.new.self) c.as_slice-places.result.now c.args.view.now.places.value.items self.found (messages_of c.in_ok-messages-in-None.messages.items)
    (c.as_slice-places.ensures.value ∙ ap (λ v. v.items) c.deref.ensures) c.in_ok-admits_view.ensures.epoch c.in_ok-admits_view.ensures.places c.in-None.is c.in_ok-reread-in-None.ensures.groups c.in_ok-messages-in-None.ensures

pub invariant_of-self-in-Some-clause-older : goal.invariant_of-self-in-Some-clause-older
invariant_of-self-in-Some-clause-older c =
    let self = c.args.self.now in
    let groups = groups_in self.group_states in
    let places = map place_of c.as_slice-places.result.now in
    either c.follow.result (λ gs. are_older self.volume gs ≡ true) (groups_in c.follow.new.self) (with_places later_group groups places) groups c.follow.ensures.groups c.follow.ensures.same
    (older-later self.volume groups places self.older) self.older

pub returns-in_ok-follow-in-Some-clause-answers : goal.returns-in_ok-follow-in-Some-clause-answers
returns-in_ok-follow-in-Some-clause-answers c =
    let self = c.args.self.now in
    view-installing (group_states_plan self.group_states) self.volume c.args.view.now.volume (groups_in self.group_states) (groups_in c.follow.new.self) c.as_slice-places.result.now c.args.view.now.places.value.items self.found c.in-Some.found (messages_of c.in_ok-messages-in-Some.messages.items)
    (c.as_slice-places.ensures.value ∙ ap (λ v. v.items) c.deref.ensures) c.in_ok-admits_view.ensures.epoch c.in_ok-admits_view.ensures.places c.in-Some.is c.in_ok-follow-in-Some.ensures.groups c.in_ok-messages-in-Some.ensures
