-- Laws of pieces, stated with the contents from which they were cut.
use Rattle.std.specs.Prelude.{◌≡◌, ◌↔◌, ℕ, ◌*◌, ◌<◌, ◌≤◌, true, false, ◌==◌, List, [], ◌∷◌, length, map, flat_map, Some}
use Rattle.volume_model.specs.Lists.{IsIn, any, each_below}
use Rattle.volume_model.specs.Redo.{Redo}
use Rattle.volume_model.specs.Lineage.{Lineage, Contents, found_in}
use Rattle.volume_model.specs.Pieces.{Piece, KeptPiece, Pieces, Copy, most_in_piece, pieces_of, piece_records, piece_of, piece_in, is_complete, with_piece, contents_in, united, brought_by, brought}
use Rattle.volume_model.specs.Plan.{Plan, IsCertified}
use Rattle.volume_model.specs.ClientRecovery.{to_install}
use Rattle.volume_model.specs.World.{World, Event, opening, run}

-- the number of pieces of this many records: enough for all, and at least one
pub record IsNumberOfPieces (records pieces : ℕ) : Type 0 where
  pub one : 1 ≤ pieces
  pub enough : records ≤ pieces * most_in_piece
  pub fewest : (other : ℕ) → 1 ≤ other → records ≤ other * most_in_piece → pieces ≤ other

-- c is the piece with this number of the contents q, and the piece's count is the number of pieces of q
pub record IsPieceOf (q : Contents) (piece : Piece) (c : Contents) : Type 0 where
  pub of : piece.of ≡ pieces_of (length q.records)
  pub is : c ≡ piece_of q piece.number

-- each piece that is kept is one of the contents q
abbrev pub ArePiecesOf : Contents → Pieces → Type 0
ArePiecesOf q pieces = (kept : KeptPiece) → IsIn kept pieces.kept → IsPieceOf q (piece_in pieces kept) kept.contents

-- the kept pieces have different numbers, each below the number of pieces
abbrev pub AreOnce : ℕ → List KeptPiece → Type 0
AreOnce of [] = Unit {0}
AreOnce of (kept ∷ rest) = (kept.number < of) × (any (λ other. other.number == kept.number) rest ≡ false)
    × AreOnce of rest

-- If each piece is kept once, their number says whether all are kept. Keeping the first piece of each number preserves
-- this.
pub record CountTells : Type 0 where
  pub complete : (pieces : Pieces) → AreOnce pieces.of pieces.kept → is_complete pieces
      ≡ (length pieces.kept == pieces.of)
  pub stays : (pieces : Pieces) (piece : Piece) (c : Contents) → AreOnce pieces.of pieces.kept → piece.number
      < pieces.of → AreOnce pieces.of (with_piece pieces piece c).kept

-- the union of a complete copy's records, as contents with this lineage
abbrev pub united_copy : Lineage → Copy → Contents
united_copy lineage copy = record { lineage = lineage; records = united (brought_by copy) }

-- No piece has more records than it may, and the concatenation of all pieces is the list that was cut. Once all pieces
-- are kept, in whatever order they came, they have the records of that list.
pub record PiecesMakeUp : Type 0 where
  pub number : (records : ℕ) → IsNumberOfPieces records (pieces_of records)
  pub small : (records : List Redo) (number : ℕ) → length (piece_records records number) ≤ most_in_piece
  pub joined : (records : List Redo) → flat_map (piece_records records) (each_below (pieces_of (length records))
      (λ number. true) (λ number. number)) ≡ records
  pub kept : (q : Contents) (pieces : Pieces) → 0 < pieces.of → ArePiecesOf q pieces → is_complete pieces ≡ true
      → (r : Redo) → IsIn r (united (contents_in pieces)) ↔ IsIn r q.records
  pub counted : CountTells

-- The union of pieces doesn't depend on their order. The records found in complete copies don't change if the pieces of
-- each copy are united first.
pub record PiecesUnite : Type 0 where
  pub any_order : (parts others : List Contents) → ((c : Contents) → IsIn c parts ↔ IsIn c others) → united parts
      ≡ united others
  pub copies : (lineage : Lineage) (copies : List Copy) → found_in lineage (brought copies) ≡ found_in lineage
      (map (united_copy lineage) copies)

-- For the plan's groups, the pieces that a node keeps of a sender's copy are pieces of one list, and those of an
-- install are pieces of what the client of that volume epoch installs in the group.
pub record KeepsPiecesOfOne (plan : Plan) (world : World) : Type 0 where
  pub copies : (group member : ℕ) → group < plan.groups → (copy : Copy) → IsIn copy (world.nodes group member).copies
      → (q : Contents) × ArePiecesOf q copy.pieces
  pub installs : (group member : ℕ) → group < plan.groups → (pieces : Pieces) → (world.nodes group member).install
      ≡ Some pieces → ArePiecesOf (to_install (world.clients pieces.series).lineage (world.clients pieces.series).found
      group) pieces

-- for every list of events, from the opening world of a certified plan
abbrev pub PiecesAreOfOne : Type 0
PiecesAreOfOne = (plan : Plan) → IsCertified plan → (events : List Event) → KeepsPiecesOfOne plan
    (run plan (opening plan) events)
