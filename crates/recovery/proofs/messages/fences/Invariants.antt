use Rattle.std.proofs.Common.{◌≡◌, true}
use Rattle.volume_model.specs.Common.{each_below, label_of, place_of, Fence}
use Rattle.wire.specs.Common.{messages_of}
use Rattle.writer_core.specs.Groups.{groups_in}
use Rattle.recovery.proofs.messages.fences.Given as goal

abbrev pub invariant-loop-group : goal.invariant-loop-group
invariant-loop-group l = messages_of l.messages.items ≡ each_below l.group (λ group. true) (λ group. Fence group (label_of l.volume (place_of (groups_in l.group_states)) group))
