use Rattle.std.proofs.Common.{ℕ, Bool, true, false, ◌<◌, List, map, length, sym, ap, ◌∙◌, lt-ltb, le-ltb}
use Rattle.volume_model.specs.Message as model
use Rattle.volume_model.specs.Common.{place_in, label_of, place_of, later_in}
use Rattle.wire.specs.declared.label.Place.{Place}
use Rattle.wire.specs.Message as wire
use Rattle.writer_core.specs.Groups.{groups_in}
use Rattle.writer_core.proofs.Speaking.{message-more, message-none, place-is, raised-is}
use Rattle.recovery.proofs.messages.later_fences.Goals as goal
use Rattle.recovery.proofs.messages.later_fences.Goals.{then-epoch-place+in_ok-push, else-epoch-place}

pub loop-group-preserved : goal.loop-group-preserved
loop-group-preserved c =
    let groups = groups_in c.args.group_states.now in
    let places : List Place = c.args.places.now in
    let volume = c.args.volume in
    let i = c.loop-group.group in
    let k = c.from.result in
    let none : Place = record { configuration = 0; epoch = 0 } in
    let test : ℕ → Bool = later_in (place_of groups) (place_in (map wire.place_of places)) in
    let said : ℕ → model.Message = λ group. model.Message.Fence group (label_of volume (place_in (map wire.place_of places)) group) in
    let within : i < length places = c.loop-group-test.true in
    elim c.if-epoch-place.branch [
      | then-epoch-place+in_ok-push w ↦ message-more c.loop-group.messages.items c.if-epoch-place.messages.items _ i test said (ap (λ v. v.items) w.messages-is ∙ w.in_ok-push.ensures.items) c.loop-group.invariant
          (raised-is groups places i k c.epoch.result none true within c.from.ensures c.epoch.ensures (lt-ltb _ _ w.if-epoch-place.true))
          (ap (model.Message.Fence i) (w.label_at.ensures ∙ ap (λ (p : model.Place). record { volume = volume; member = p.epoch }) (sym (place-is places i k none within c.from.ensures))))
      | else-epoch-place w ↦ message-none c.loop-group.messages.items c.if-epoch-place.messages.items i test said (ap (λ v. v.items) w.messages-is) c.loop-group.invariant
          (raised-is groups places i k c.epoch.result none false within c.from.ensures c.epoch.ensures (le-ltb _ _ w.if-epoch-place.false))
    ]
