use Rattle.std.proofs.Common.{◌≡◌, ℕ, ◌+◌, ◌<◌, get_or, map}
use Rattle.volume_model.specs.Common.{Redo}
use Rattle.redo_record.specs.SharedRecord.{shared_redo}
use Rattle.redo_record.proofs.shared_list.is_volume_chain.Given as goal

abbrev pub invariant-loop-place : goal.invariant-loop-place
invariant-loop-place l = (i : ℕ) (d : Redo) → i + 1 < l.place → (get_or (map shared_redo l.packets) (i + 1) d).prev_volume ≡ (get_or (map shared_redo l.packets) i d).lsn
