-- Changes that are made ready.
use Rattle.std.proofs.Common.{◌≡◌, ℕ, ◌<◌, List, length, get_or, set, Some, Result, Ok, Err, sym, ap, subst, ◌∙◌, IfOk, get_or-set_same, length-set}
use Rattle.volume_model.specs.Common.{Copy, with_series}
use Rattle.wire.specs.declared.message.CopyReport.{CopyReport}
use Rattle.wire.specs.Common.{contents_of, piece_in}
use Rattle.hydration.specs.declared.change.Change.{Change}
use Rattle.hydration.specs.declared.kept_copy.KeptCopy.{KeptCopy}
use Rattle.hydration.specs.declared.hydration.Hydration.{Hydration}
use Rattle.hydration.specs.Changes.{CanChange, changed}
use Rattle.hydration.specs.KeptCopies.{all_kept_copies, kept_copy_of}
use Rattle.hydration.specs.Hydration.{kept_at, place_of, CanChangeAt}
use Rattle.hydration.specs.Pieces.{seen_pieces}
use Rattle.hydration.proofs.Gathering.{kept_copy-at, place-inside, place-with}

-- by the change the piece is kept at the place of its sender
pub changed-place : {E : Type 0} (copies : List KeptCopy) (report : CopyReport) (p : ℕ) (copy : KeptCopy) (r : Result Change E) → place_of (all_kept_copies copies) report.from ≡ Some p → copy ≡ get_or copies p copy
    → IfOk r (λ change. changed change (seen_pieces copy.pieces) ≡ with_series (seen_pieces copy.pieces) report.part.value.series (piece_in report.piece report.of) (contents_of report.part.value.contents))
    → IfOk r (kept_at p report (all_kept_copies copies))
changed-place copies report p copy (Err e) h is made = tt
changed-place copies report p copy (Ok change) h is made =
    let piece = piece_in report.piece report.of in
    let c = contents_of report.part.value.contents in
    let there : get_or (all_kept_copies copies) p (kept_copy_of copy) ≡ kept_copy_of copy = kept_copy-at copies p copy (place-inside copies report.from p h) ∙ ap kept_copy_of (sym is) in
    place-with (all_kept_copies copies) report.from p report.part.value.series piece c change (kept_copy_of copy) h
    (subst (λ (x : Copy). changed change x.pieces ≡ with_series x.pieces report.part.value.series piece c) (sym there) made)

-- the copy at the place can be changed so
pub ready-place : {E : Type 0} (h : Hydration) (copies : List KeptCopy) (p : ℕ) (new : KeptCopy) (r : Result Change E) → h.copies.items ≡ set copies p new → p < length copies → IfOk r (CanChange new.pieces) → IfOk r (CanChangeAt h p)
ready-place h copies p new (Err e) made within ready = tt
ready-place h copies p new (Ok change) made within ready =
    record {
      within = subst (λ n. p < n) (sym (ap (λ (cs : List KeptCopy). length cs) made ∙ length-set copies p new)) within;
      can = λ d. subst (λ (x : KeptCopy). CanChange x.pieces change) (sym (ap (λ cs. get_or cs p d) made ∙ get_or-set_same copies p new d within)) ready;
    }
