-- Pages with all records of a block applied.
use Rattle.std.specs.Prelude.{◌≡◌, ℕ, List, [], ◌∷◌, Option, Some, replicate}
use Rattle.std.specs.Global.{Box}
use Rattle.volume_model.specs.Common.{Redo, written}

-- the page with the writes of these records applied, in order
abbrev pub applied : List Redo → List ℕ → List ℕ
applied [] page = page
applied (r ∷ rest) page = applied rest (written r page)

-- if a page is kept, it has the writes of these records, and no others
abbrev pub IsPageOf : List Redo → Option (Box (List ℕ)) → Type 0
IsPageOf records latest = (page : Box (List ℕ)) → latest ≡ Some page → page.value ≡ applied records (replicate 512 0)
