-- The last record of a list.
use Rattle.std.proofs.Common.{◌≡◌, ◌∙◌, ◌-◌, List, Option, None, Some, Bor, option_map, length, map, refl, sym, ap}
use Rattle.std.proofs.lemmas.List.{length-map}
use Rattle.std.proofs.lemmas.Option.{slice_get-map}
use Rattle.std.specs.List.{slice_get}
use Rattle.std.specs.Option.{option_copied}
use Rattle.redo_record.specs.declared.shared_record.SharedRecord.{SharedRecord}
use Rattle.redo_record.specs.Common.{shared_redo}
use Rattle.redo_record.proofs.RunLists.{last-read}
use Rattle.segment_core.specs.BlockRecords.{IsLastOf}

shown : (found : Option (Bor SharedRecord)) → option_map (λ (p : Bor SharedRecord). shared_redo p.now) found ≡ option_map shared_redo (option_copied found)
shown None = refl
shown (Some p) = refl

-- the last packet of a list shows the last record
pub last-shown : (packets : List SharedRecord) (last : Option (Bor SharedRecord)) → option_copied last ≡ slice_get packets (length packets - 1) → IsLastOf (map shared_redo packets) last
last-shown packets last is =
    last-read last (map shared_redo packets) (length packets - 1)
    (shown last ∙ ap (option_map shared_redo) is ∙ sym (slice_get-map shared_redo packets (length packets - 1)))
    (ap (λ n. n - 1) (sym (length-map packets shared_redo)))
