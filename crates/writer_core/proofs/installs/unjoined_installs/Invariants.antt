use Rattle.std.proofs.Common.{◌≡◌, [], map}
use Rattle.volume_model.specs.Common.{each_below, joined, label_of, later_unjoined, place_in, in_pieces, to_install, Install}
use Rattle.wire.specs.Message as wire
use Rattle.lineage.specs.Lineage.{lineage_of}
use Rattle.wire.specs.Common.{messages_of}
use Rattle.writer_core.specs.Groups.{groups_in}
use Rattle.writer_core.proofs.installs.unjoined_installs.Given as goal

abbrev pub invariant-loop-group : goal.invariant-loop-group
invariant-loop-group l = messages_of l.messages.items ≡ joined (each_below l.group (later_unjoined (groups_in l.group_states) (place_in (map wire.place_of l.places))) (λ group. in_pieces (to_install (lineage_of l.lineage) [] group) (Install group (label_of l.volume (place_in (map wire.place_of l.places)) group))))
