use Rattle.std.specs.Prelude.{◌≡◌, ℕ, zero, suc, ◌<◌, Bool, ◌==◌, nat_le, if◌then◌else◌, List, [], ◌∷◌, ◌++◌, length, vec_capacity, slice_index_or, Option, Some, None, option_map, Result, Ok}
use Rattle.volume_model.specs.declared.fault.Fault.{Fault}
use Rattle.volume_model.specs.declared.fault.Fault.TheVariants.{BadPiece, NotAddressed}
use Rattle.volume_model.specs.Common.{refuse_if, Hydrated, Copy, first_piece, is_bad_piece, pieces_from, with_copy}
use Rattle.wire.specs.declared.message.CopyReport.{CopyReport}
use Rattle.wire.specs.Common.{contents_of, piece_in}
use Rattle.hydration.specs.declared.change.Change.{Change}
use Rattle.hydration.specs.declared.kept_copy.KeptCopy.{KeptCopy}
use Rattle.hydration.specs.declared.kept_copy.Keeping.{Keeping}
use Rattle.hydration.specs.declared.kept_copy.Keeping.TheVariants.{New, At}
use Rattle.hydration.specs.declared.copied.HydratedState.{HydratedState}
use Rattle.hydration.specs.declared.hydration.Hydration.{Hydration}
use Rattle.hydration.specs.Changes.{CanChange, changed}
use Rattle.hydration.specs.KeptCopies.{all_kept_copies, kept_copy_of}

-- the copies kept, in the order in which their members' first pieces came
abbrev pub copies_of : Hydration → List Copy
copies_of h = all_kept_copies h.copies.items

-- the model's volume epoch and contents of a hydrated node
abbrev pub state_of : HydratedState → Hydrated
state_of s = record { volume = s.volume; contents = contents_of s.contents }

-- the piece can't belong to those kept of its sender
abbrev pub is_bad : CopyReport → List Copy → Bool
is_bad report copies = is_bad_piece (pieces_from copies report.from) report.part.value.series
    (piece_in report.piece report.of) (contents_of report.part.value.contents)

-- the copies with one more piece
abbrev pub with_report : CopyReport → List Copy → List Copy
with_report report copies = with_copy report.from report.part.value.series (piece_in report.piece report.of)
    (contents_of report.part.value.contents) copies

-- The copies after a CopyReport. A sender that isn't a member (below 64) is refused first, then a piece that can't
-- belong to those kept.
abbrev pub kept_after : CopyReport → List Copy → Result (List Copy) Fault
kept_after report copies = refuse_if (nat_le 64 report.from) NotAddressed (refuse_if (is_bad report copies) BadPiece
    (Ok (with_report report copies)))

-- the place of a sender's copy
abbrev pub place_of : List Copy → ℕ → Option ℕ
place_of [] sender = None
place_of (copy ∷ rest) sender = if copy.sender == sender then Some 0 else option_map suc (place_of rest sender)

-- the copies after a change of the copy at a place
abbrev pub changed_at : ℕ → Change → List Copy → List Copy
changed_at place change [] = []
changed_at zero change (copy ∷ rest) = record copy { pieces = changed change copy.pieces } ∷ rest
changed_at (suc place) change (copy ∷ rest) = copy ∷ changed_at place change rest

-- the copies after the prepared piece is kept
abbrev pub kept_by : Keeping → List Copy → List Copy
kept_by (New kept_copy) copies = copies ++ kept_copy_of kept_copy ∷ []
kept_by (At place change) copies = changed_at place change copies

-- the copy is new and has only this piece
abbrev pub first_kept : CopyReport → KeptCopy → Type 0
first_kept report kept_copy = kept_copy_of kept_copy ≡ record {
  sender = report.from;
  pieces = first_piece
      report.part.value.series (piece_in report.piece report.of) (contents_of report.part.value.contents);
}

-- this change of the copy at a place keeps the piece
abbrev pub kept_at : ℕ → CopyReport → List Copy → Change → Type 0
kept_at place report copies change = changed_at place change copies ≡ with_report report copies

-- the copies unchanged
abbrev pub just : Unit {0} → List Copy → List Copy
just u copies = copies

-- there is room for one more copy
abbrev pub HasRoom : Hydration → Type 0
HasRoom h = length h.copies.items < vec_capacity h.copies

-- the change of the copy at this place is possible
pub record CanChangeAt (h : Hydration) (place : ℕ) (change : Change) : Type 0 where
  pub within : place < length h.copies.items
  pub can : (d : KeptCopy) → CanChange (slice_index_or h.copies.items place d).pieces change

-- the prepared piece can be kept
abbrev pub CanKeep : Hydration → Keeping → Type 0
CanKeep h (New kept_copy) = HasRoom h
CanKeep h (At place change) = CanChangeAt h place change
