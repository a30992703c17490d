use Rattle.std.proofs.Common.{◌≡◌, ℕ, ◌<◌, get_or, map}
use Rattle.volume_model.specs.Common.{Redo}
use Rattle.redo_record.specs.SharedRecord.{shared_redo}
use Rattle.redo_record.proofs.shared_list.epoch_of.Given as goal

abbrev pub invariant-loop-packet : goal.invariant-loop-packet
invariant-loop-packet l = (k : ℕ) (d : Redo) → k < l.packet-index → (get_or (map shared_redo l.packets) k d).volume ≡ l.volume_epoch
