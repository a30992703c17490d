use Rattle.std.proofs.Common.{ℕ, Bool, true, false, ◌<◌, List, map, length, sym, ap, ◌∙◌, lt-ltb, le-ltb}
use Rattle.volume_model.specs.Message as model
use Rattle.volume_model.specs.Common.{place_in, label_of, place_of, later_in, in_pieces, to_install, Contents}
use Rattle.lineage.specs.Lineage.{lineage_of}
use Rattle.writer_core.specs.Logs.{log_of_set}
use Rattle.wire.specs.declared.label.Place.{Place}
use Rattle.wire.specs.Message as wire
use Rattle.writer_core.specs.Groups.{groups_in}
use Rattle.writer_core.proofs.Speaking.{messages-more, messages-none, place-is, raised-is}
use Rattle.recovery.proofs.messages.later_installs.Goals as goal
use Rattle.recovery.proofs.messages.later_installs.Goals.{then-epoch-place+in_ok-pieces+in_ok-append, else-epoch-place}

pub loop-group-preserved : goal.loop-group-preserved
loop-group-preserved c =
    let groups = groups_in c.args.group_states.now in
    let places : List Place = c.args.places.now in
    let volume = c.args.volume in
    let i = c.loop-group.group in
    let k = c.from.result in
    let none : Place = record { configuration = 0; epoch = 0 } in
    let test : ℕ → Bool = later_in (place_of groups) (place_in (map wire.place_of places)) in
    let shown : ℕ → Contents = to_install (lineage_of c.args.found.now.lineage) (log_of_set c.args.found.now.log) in
    let said : ℕ → List model.Message = λ group. in_pieces (shown group) (model.Message.Install group (label_of volume (place_in (map wire.place_of places)) group)) in
    let within : i < length places = c.loop-group-test.true in
    elim c.if-epoch-place.branch [
      | then-epoch-place+in_ok-pieces+in_ok-append w ↦ messages-more c.loop-group.messages.items c.if-epoch-place.messages.items w.in_ok-pieces.pieces.items i test said (ap (λ v. v.items) w.messages-is ∙ w.in_ok-append.ensures.items) c.loop-group.invariant
          (raised-is groups places i k c.epoch.result none true within c.from.ensures c.epoch.ensures (lt-ltb _ _ w.if-epoch-place.true))
          (w.in_ok-pieces.ensures
          ∙ ap (λ l. in_pieces (shown i) (model.Message.Install i l)) (w.label_at-label.ensures ∙ ap (λ (p : model.Place). record { volume = volume; member = p.epoch }) (sym (place-is places i k none within c.from.ensures))))
      | else-epoch-place w ↦ messages-none c.loop-group.messages.items c.if-epoch-place.messages.items i test said (ap (λ v. v.items) w.messages-is) c.loop-group.invariant
          (raised-is groups places i k c.epoch.result none false within c.from.ensures c.epoch.ensures (le-ltb _ _ w.if-epoch-place.false))
    ]
