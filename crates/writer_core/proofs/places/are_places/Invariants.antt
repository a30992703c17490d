use Rattle.std.proofs.Common.{◌≡◌, map, true}
use Rattle.volume_model.specs.Common.{every_below, is_configuration, place_in}
use Rattle.plan.specs.Common.{checked_model}
use Rattle.wire.specs.Common.{place_of}
use Rattle.writer_core.proofs.places.are_places.Given as goal

abbrev pub invariant-loop-group : goal.invariant-loop-group
invariant-loop-group l =
    every_below l.group (λ g. is_configuration (checked_model l.plan) g (place_in (map place_of l.places) g).configuration (place_in (map place_of l.places) g).epoch) ≡ true
