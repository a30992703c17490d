-- Pieces that aren't refused.
use Rattle.std.proofs.Common.{◌≡◌, ℕ, ◌<◌, Bool, false, nat_le, List, Option, Result, Ok, ap, ◌∙◌, arith}
use Rattle.std.proofs.lemmas.Bool.Decides.{nat_tests}
use Rattle.volume_model.specs.Common.{Contents, Piece, Pieces, Copy, is_bad_piece, refuse_if}
use Rattle.volume_model.specs.declared.fault.Fault.{Fault}
use Rattle.volume_model.specs.declared.fault.Fault.TheVariants.{BadPiece, NotAddressed}
use Rattle.wire.specs.declared.message.CopyReport.{CopyReport}
use Rattle.hydration.specs.Hydration.{is_bad, kept_after, with_report}
use Rattle.std.proofs.lemmas.Grind.{common_steps}

-- the number of a piece is below the number of pieces
pub fair-number : (kept : Option Pieces) (series : ℕ) (piece : Piece) (c : Contents) → is_bad_piece kept series piece c ≡ false → piece.number < piece.of
fair-number kept series piece c h = grind (arith, common_steps)

low : (n : ℕ) → n < 64 → nat_le 64 n ≡ false
low n h = grind (arith, nat_tests)

-- what a piece amounts to, by both tests
abbrev tested : CopyReport → List Copy → Bool → Bool → Result (List Copy) Fault
tested report copies unknown bad = refuse_if unknown NotAddressed (refuse_if bad BadPiece (Ok (with_report report copies)))

pub kept-good : (report : CopyReport) (copies : List Copy) → report.from < 64 → is_bad report copies ≡ false → kept_after report copies ≡ Ok (with_report report copies)
kept-good report copies h fair = ap (λ unknown. tested report copies unknown (is_bad report copies)) (low report.from h) ∙ ap (tested report copies false) fair
