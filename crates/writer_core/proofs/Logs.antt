-- A log that grows at its end.
use Rattle.std.proofs.Common.{◌≡◌, ℕ, ◌+◌, ◌<◌, List, [], ◌∷◌, ◌++◌, map, take, length, get_or, refl, ap, ◌∙◌}
use Rattle.std.proofs.lemmas.List.{take_more}
use Rattle.volume_model.specs.Common.{added, Redo}
use Rattle.redo_record.specs.declared.shared_record.SharedRecord.{SharedRecord}
use Rattle.redo_record.specs.Common.{shared_redo}
use Rattle.writer_core.specs.Logs.{log_of}

pub added_from : (packets : List SharedRecord) (p : SharedRecord) (kept : List Redo) → added (map shared_redo (packets ++ p ∷ [])) kept ≡ shared_redo p ∷ added (map shared_redo packets) kept
added_from [] p kept = refl
added_from (q ∷ rest) p kept = added_from rest p (shared_redo q ∷ kept)

pub log_of-push : (packets : List SharedRecord) (p : SharedRecord) → log_of (packets ++ p ∷ []) ≡ shared_redo p ∷ log_of packets
log_of-push packets p = added_from packets p []

pub log_of-more : (packets : List SharedRecord) (i : ℕ) (d : SharedRecord) → i < length packets → log_of (take (i + 1) packets) ≡ shared_redo (get_or packets i d) ∷ log_of (take i packets)
log_of-more packets i d within = ap log_of (take_more packets i d within) ∙ log_of-push (take i packets) (get_or packets i d)
