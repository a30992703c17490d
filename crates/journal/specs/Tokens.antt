-- The cells of a row, and the borrowed entries in them.
use Rattle.std.specs.Prelude.{ℕ, List, map, replicate, vec_len}
use Rattle.std.specs.Borrow.{Bor}
use Rattle.journal.specs.declared.entry.Entry.{Entry}
use Rattle.journal.specs.declared.row.Row.{Row}

-- the row's cells
abbrev pub ids_of : Row → List ℕ
ids_of row = replicate (vec_len row.cells) 0

-- the borrowed entries
abbrev pub shown : List (Bor Entry) → List Entry
shown entries = map (λ t. t.now) entries
