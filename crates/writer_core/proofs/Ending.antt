-- Packets with which the first records of a log end.
use Rattle.std.proofs.Common.{◌≡◌, ℕ, ◌+◌, ◌-◌, ◌≤◌, List, [], ◌∷◌, ◌++◌, map, take, drop, length, refl, sym, ap₂, ◌∙◌, arith}
use Rattle.std.proofs.lemmas.List.{drop-take, length-map, length-take-le, take-append-drop, take-append-le, take-map, take-take}
use Rattle.volume_model.specs.Common.{added, Redo}
use Rattle.redo_record.specs.declared.shared_record.SharedRecord.{SharedRecord}
use Rattle.redo_record.specs.Common.{shared_redo}
use Rattle.writer_core.specs.Ending.{EndsWith}
use Rattle.writer_core.specs.Logs.{log_of}
use Rattle.std.proofs.lemmas.Grind.{common_steps}

take-two : {A : Type 0} (n m : ℕ) (xs : List A) → take (n + m) xs ≡ take n xs ++ take m (drop n xs)
take-two n m xs = sym (take-append-drop n (take (n + m) xs)) ∙ ap₂ (λ a b. a ++ b) (take-take n (n + m) xs (omega arith)) (drop-take n m xs)

-- the packets of a run that are before a place
pub ends-in-run : (place left : ℕ) (records rest : List Redo) (packets kept : List SharedRecord) → left ≤ place → left ≤ length packets → kept ≡ take left packets → drop (place - left) records ≡ map shared_redo packets ++ rest → EndsWith kept place records
ends-in-run place left records rest packets kept few within is here = grind (arith, common_steps, length-take-le, length-map, take-two, take-append-le, take-map)

-- more records don't matter
pub ends-before : (packets : List SharedRecord) (place : ℕ) (records more : List Redo) → place ≤ length records → EndsWith packets place records → EndsWith packets place (records ++ more)
ends-before packets place records more within ends = grind (arith, common_steps)

pub added-two : {A : Type 0} (xs ys kept : List A) → added (xs ++ ys) kept ≡ added ys (added xs kept)
added-two [] ys kept = refl
added-two (x ∷ xs) ys kept = added-two xs ys (x ∷ kept)

-- the log up to a place, over that up to the packets
pub log-ends : (packets records : List SharedRecord) (place : ℕ) → EndsWith packets place (map shared_redo records) → log_of (take place records) ≡ added (map shared_redo packets) (log_of (take (place - length packets) records))
log-ends packets records place ends = grind (arith, common_steps, take-map, added-two)
