use Rattle.std.proofs.Common.{◌≡◌, map}
use Rattle.volume_model.specs.Common.{each_below, label_of, place_of, later_in, place_in, Fence}
use Rattle.wire.specs.Message as wire
use Rattle.wire.specs.Common.{messages_of}
use Rattle.writer_core.specs.Groups.{groups_in}
use Rattle.recovery.proofs.messages.later_fences.Given as goal

abbrev pub invariant-loop-group : goal.invariant-loop-group
invariant-loop-group l = messages_of l.messages.items ≡ each_below l.group (later_in (place_of (groups_in l.group_states)) (place_in (map wire.place_of l.places))) (λ group. Fence group (label_of l.volume (place_in (map wire.place_of l.places)) group))
