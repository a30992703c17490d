-- A page from a list of records in two parts.
use Rattle.std.proofs.Common.{◌≡◌, ℕ, ◌&&◌, nat_le, nat_eq, if◌then◌else◌, List, [], ◌∷◌, ◌++◌, map, refl, sym, ap, ◌∙◌}
use Rattle.std.proofs.lemmas.List.{map-append}
use Rattle.volume_model.specs.Common.{Redo, written, page_from}
use Rattle.std.proofs.lemmas.Grind.{common_steps}
use Rattle.std.proofs.Common.{arith}

-- some records and then the others
pub page_joined : (page : List ℕ) (block point : ℕ) (some more : List Redo) → page_from (page_from page block point some) block point more ≡ page_from page block point (some ++ more)
page_joined page block point [] more = refl
page_joined page block point (r ∷ some) more = grind (arith, common_steps, nat_eq, (page_joined (if nat_eq r.block block && nat_le r.lsn point then written r page else page) block point some more))

-- some of what shows a record each, and then the others
pub page_parted : {A : Type 0} (shows : A → Redo) (page : List ℕ) (block point : ℕ) (some more : List A)
    → page_from (page_from page block point (map shows some)) block point (map shows more) ≡ page_from page block point (map shows (some ++ more))
page_parted shows page block point some more =
    page_joined page block point (map shows some) (map shows more) ∙ ap (page_from page block point) (sym (map-append shows some more))
