use Rattle.std.proofs.Common.{◌≡◌, true}
use Rattle.volume_model.specs.Common.{each_below, Install, piece_of, to_install}
use Rattle.lineage.specs.Lineage.{lineage_of}
use Rattle.wire.specs.Common.{messages_of, label_of}
use Rattle.writer_core.specs.Logs.{log_of_set}
use Rattle.writer_core.proofs.installs.group_installs.Given as goal

abbrev pub invariant-loop-piece : goal.invariant-loop-piece
invariant-loop-piece l = messages_of l.messages.items ≡ each_below l.piece (λ number. true) (λ number. Install l.group (label_of l.label) (record { number = number; of = l.of }) (piece_of (to_install (lineage_of l.lineage) (log_of_set l.log) l.group) number))
