use Rattle.std.proofs.Common.{map, sym, ◌∙◌}
use Rattle.plan.specs.Common.{checked_model}
use Rattle.volume_model.specs.Common.{Plan}
use Rattle.wire.specs.Common.{place_of}
use Rattle.writer_core.proofs.Below.{below-more, is_place, is_place-at, places-fail}
use Rattle.writer_core.proofs.places.are_places.Goals as goal

pub returns-then-not-is_configuration : goal.returns-then-not-is_configuration
returns-then-not-is_configuration c =
    let plan : Plan = checked_model c.args.plan.now in
    sym (places-fail plan c.args.places.now c.loop-group.group (record { configuration = 0; epoch = 0 }) c.loop-group-test.true (sym c.is_configuration.ensures ∙ c.if-not-is_configuration.true))

pub loop-group-preserved : goal.loop-group-preserved
loop-group-preserved c =
    let plan : Plan = checked_model c.args.plan.now in
    below-more c.loop-group.group (is_place plan (map place_of c.args.places.now)) c.loop-group.invariant
    (is_place-at plan c.args.places.now c.loop-group.group (record { configuration = 0; epoch = 0 }) c.loop-group-test.true ∙ sym c.is_configuration.ensures ∙ c.if-not-is_configuration.false)
