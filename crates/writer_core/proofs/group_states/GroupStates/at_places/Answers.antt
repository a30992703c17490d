use Rattle.std.proofs.Common.{◌≡◌, List, map, take, sym, ap, ◌∙◌, subst, take_all}
use Rattle.std.specs.Arc.{arc_value}
use Rattle.plan.specs.Common.{checked_model}
use Rattle.volume_model.specs.Common.{newly_at}
use Rattle.wire.specs.declared.label.Place.{Place}
use Rattle.wire.specs.Common.{place_of}
use Rattle.writer_core.specs.GroupStates.{groups_of, ArePlaced}
use Rattle.writer_core.proofs.Placing.{found-placed}
use Rattle.writer_core.proofs.group_states.GroupStates.at_places.Goals as goal

pub invariant_of-result-clause-placed : goal.invariant_of-result-clause-placed
invariant_of-result-clause-placed c =
    let plan = checked_model (arc_value c.args.plan) in
    let places = c.args.places.now in
    let whole : take c.loop-place.place-index places ≡ places = take_all c.loop-place.place-index places c.loop-place-test.false in
    let all : groups_of c.loop-place.list.items ≡ map newly_at (map place_of places) = c.loop-place.invariant.found ∙ ap (λ (xs : List Place). map newly_at (map place_of xs)) whole in
    subst (ArePlaced plan) (sym all) (found-placed plan (map place_of places) c.requires)
