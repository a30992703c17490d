-- Changes of the kept pieces.
use Rattle.std.specs.Prelude.{◌≡◌, ◌<◌, false, [], ◌∷◌, ◌++◌, length, vec_capacity}
use Rattle.volume_model.specs.Pieces as model
use Rattle.hydration.specs.declared.kept.Kept.{Kept}
use Rattle.hydration.specs.declared.pieces.Pieces.{Pieces}
use Rattle.hydration.specs.declared.change.Change.{Change}
use Rattle.hydration.specs.declared.change.Change.TheVariants.{Nothing, Append, Replace}
use Rattle.hydration.specs.Kept.{kept_of}
use Rattle.hydration.specs.Pieces.{seen_pieces}

-- the pieces after a change
abbrev pub changed : Change → model.Pieces → model.Pieces
changed Nothing pieces = pieces
changed (Append kept) pieces = record pieces { kept = pieces.kept ++ kept_of kept ∷ [] }
changed (Replace others) pieces = seen_pieces others

-- there is room for the piece, its number is one of the series, and it isn't kept yet
pub record CanAdd (pieces : Pieces) (kept : Kept) : Type 0 where
  pub room : length pieces.kept.items < vec_capacity pieces.kept
  pub below : kept.number < pieces.of
  pub new : model.has_piece (seen_pieces pieces) kept.number ≡ false

-- the change is possible
abbrev pub CanChange : Pieces → Change → Type 0
CanChange pieces Nothing = Unit {0}
CanChange pieces (Append kept) = CanAdd pieces kept
CanChange pieces (Replace others) = Unit {0}
