-- Contents that are sent in pieces: how they are cut, which pieces are kept, and what the kept ones hold.
use Rattle.std.specs.Prelude.{ℕ, ◌*◌, Bool, true, false, not, ◌&&◌, ◌||◌, ◌==◌, nat_lt, nat_le, if◌then◌else◌, List, [], ◌∷◌, ◌++◌, Option, Some, None, length, map, max, take, drop, flat_map}
use Rattle.std.specs.Int.{div_ceil}
use Rattle.volume_model.specs.Lists.{any, every_below, each_below}
use Rattle.volume_model.specs.Redo.{Redo, with_records}
use Rattle.volume_model.specs.Lineage.{Contents}

-- the number of a piece, from 0, and the number of pieces
pub record Piece : Type 0 where
  pub number : ℕ
  pub of : ℕ

-- the most records that a piece may have
abbrev pub most_in_piece : ℕ
most_in_piece = 256

-- the most pieces that contents may have
abbrev pub most_pieces : ℕ
most_pieces = 4096

-- the number of pieces of this many records: at least one
abbrev pub pieces_of : ℕ → ℕ
pieces_of records = max 1 (div_ceil records most_in_piece)

-- the records of the piece with a number
abbrev pub piece_records : List Redo → ℕ → List Redo
piece_records records number = take most_in_piece (drop (number * most_in_piece) records)

-- the piece with a number of a segment's contents
abbrev pub piece_of : Contents → ℕ → Contents
piece_of contents number = record { lineage = contents.lineage; records = piece_records contents.records number }

-- the value of say for each piece, in order of their numbers
abbrev pub in_pieces : {A : Type 0} → Contents → (Piece → Contents → A) → List A
in_pieces contents say =
    let of = pieces_of (length contents.records) in
    each_below of (λ number. true) (λ number. say (record { number = number; of = of }) (piece_of contents number))

-- the piece is one of 1 to 4,096, and has no more records than it may
abbrev pub is_piece : Piece → Contents → Bool
is_piece piece contents = nat_lt piece.number piece.of && (nat_le piece.of most_pieces && nat_le
    (length contents.records) most_in_piece)

-- a piece that is kept
pub record KeptPiece : Type 0 where
  pub number : ℕ
  pub contents : Contents

-- the pieces kept of one series: the volume epoch of an install or the number of a copy, the number of pieces, and the
-- pieces that came, each number once
pub record Pieces : Type 0 where
  pub series : ℕ
  pub of : ℕ
  pub kept : List KeptPiece

-- the number and count of a kept piece
abbrev pub piece_in : Pieces → KeptPiece → Piece
piece_in pieces kept = record { number = kept.number; of = pieces.of }

-- the piece with a number is kept
abbrev pub has_piece : Pieces → ℕ → Bool
has_piece pieces number = any (λ kept. kept.number == number) pieces.kept

-- all pieces are kept
abbrev pub is_complete : Pieces → Bool
is_complete pieces = every_below pieces.of (has_piece pieces)

-- a series of which this is the first piece
abbrev pub first_piece : ℕ → Piece → Contents → Pieces
first_piece series piece contents = record {
  series = series;
  of = piece.of;
  kept = record
      { number = piece.number; contents = contents } ∷ [];
}

-- the series with one more piece: the first of each number is kept
abbrev pub with_piece : Pieces → Piece → Contents → Pieces
with_piece pieces piece contents =
    if has_piece pieces piece.number
    then pieces
    else record pieces { kept = pieces.kept ++ record { number = piece.number; contents = contents } ∷ [] }

-- pieces of this series are kept, with another number of pieces
abbrev pub is_of_other : Option Pieces → ℕ → Piece → Bool
is_of_other None series piece = false
is_of_other (Some pieces) series piece = pieces.series == series && not (pieces.of == piece.of)

-- the piece can't belong to the kept ones: it isn't valid, or its number of pieces is another
abbrev pub is_bad_piece : Option Pieces → ℕ → Piece → Contents → Bool
is_bad_piece kept series piece contents = not (is_piece piece contents) || is_of_other kept series piece

-- the contents of the kept pieces
abbrev pub contents_in : Pieces → List Contents
contents_in pieces = map (λ kept. kept.contents) pieces.kept

-- the records of all contents, as a set
abbrev pub united : List Contents → List Redo
united [] = []
united (part ∷ rest) = with_records part.records (united rest)

-- The pieces kept of an install with one more. Pieces of another volume epoch are dropped.
abbrev pub with_install : Option Pieces → ℕ → Piece → Contents → Pieces
with_install None volume piece contents = first_piece volume piece contents
with_install (Some pieces) volume piece contents =
    if pieces.series == volume then with_piece pieces piece contents else first_piece volume piece contents

-- The pieces kept of a sender's copy with one more. Once a series is complete it never changes. Before that, a greater
-- series replaces the kept pieces, and a smaller one is ignored.
abbrev pub with_series : Pieces → ℕ → Piece → Contents → Pieces
with_series pieces series piece contents =
    if is_complete pieces
    then pieces
    else (if pieces.series == series then with_piece pieces piece contents else (if nat_lt series pieces.series then
    pieces else first_piece series piece contents))

-- the pieces kept of a sender's copy
pub record Copy : Type 0 where
  pub sender : ℕ
  pub pieces : Pieces

-- the pieces kept of a sender, if any
abbrev pub pieces_from : List Copy → ℕ → Option Pieces
pieces_from [] sender = None
pieces_from (copy ∷ rest) sender = if copy.sender == sender then Some copy.pieces else pieces_from rest sender

-- the copies with one more piece: one series of each sender is kept
abbrev pub with_copy : ℕ → ℕ → Piece → Contents → List Copy → List Copy
with_copy sender series piece contents [] = record { sender = sender; pieces = first_piece series piece contents } ∷ []
with_copy sender series piece contents (copy ∷ rest) =
    if copy.sender == sender
    then record { sender = sender; pieces = with_series copy.pieces series piece contents } ∷ rest
    else copy ∷ with_copy sender series piece contents rest

-- the members whose copy is complete
abbrev pub copied_by : List Copy → ℕ → Bool
copied_by copies x = any (λ copy. copy.sender == x && is_complete copy.pieces) copies

-- the contents of a copy, once it is complete
abbrev pub brought_by : Copy → List Contents
brought_by copy = if is_complete copy.pieces then contents_in copy.pieces else []

-- the contents of all complete copies
abbrev pub brought : List Copy → List Contents
brought copies = flat_map brought_by copies
