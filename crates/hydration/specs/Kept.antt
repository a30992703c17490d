-- Kept pieces.
use Rattle.std.specs.Prelude.{ℕ, Bool, true, not, ◌&&◌, ◌==◌, nat_lt, List, [], ◌∷◌, map}
use Rattle.volume_model.specs.Common.{any, each_below, Redo, KeptPiece}
use Rattle.wire.specs.Common.{contents_of}
use Rattle.hydration.specs.declared.kept.Kept.{Kept}

-- the piece of the model for a kept one
abbrev pub kept_of : Kept → KeptPiece
kept_of kept = record { number = kept.number; contents = contents_of kept.contents }

-- the pieces, in the order in which they came
abbrev pub all_kept : List Kept → List KeptPiece
all_kept kept = map kept_of kept

-- the piece with this number is kept
abbrev pub is_kept : List KeptPiece → ℕ → Bool
is_kept kept number = any (λ piece. piece.number == number) kept

-- the pieces have different numbers, each below the number of pieces
abbrev pub are_once : ℕ → List KeptPiece → Bool
are_once of [] = true
are_once of (kept ∷ rest) = nat_lt kept.number of && (not (is_kept rest kept.number) && are_once of rest)

-- for each number, whether its piece is kept
abbrev pub marks_of : ℕ → List KeptPiece → List Bool
marks_of of kept = each_below of (λ number. true) (is_kept kept)

-- the records of each kept piece, as a set
abbrev pub sets_kept : List Kept → List (List Redo)
sets_kept kept = map (λ (piece : KeptPiece). piece.contents.records) (all_kept kept)
