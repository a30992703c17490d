use Rattle.std.proofs.Common.{◌≡◌, true}
use Rattle.volume_model.specs.Common.{each_below, joined, label_of, place_of, in_pieces, to_install, Install}
use Rattle.lineage.specs.Lineage.{lineage_of}
use Rattle.wire.specs.Common.{messages_of}
use Rattle.writer_core.specs.Logs.{log_of_set}
use Rattle.writer_core.specs.Groups.{groups_in}
use Rattle.recovery.proofs.messages.installs.Given as goal

abbrev pub invariant-loop-group : goal.invariant-loop-group
invariant-loop-group l = messages_of l.messages.items ≡ joined (each_below l.group (λ group. true) (λ group. in_pieces (to_install (lineage_of l.found.lineage) (log_of_set l.found.log) group) (Install group (label_of l.volume (place_of (groups_in l.group_states)) group))))
