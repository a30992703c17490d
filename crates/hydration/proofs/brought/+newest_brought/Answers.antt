use Rattle.std.proofs.Common.{List, map, ap, sym, ◌∙◌}
use Rattle.volume_model.specs.Common.{newest_with, KeptPiece}
use Rattle.lineage.specs.Lineage.{lineage_of}
use Rattle.hydration.proofs.Bringing.{newest-front}
use Rattle.hydration.proofs.brought.+newest_brought.Goals as goal

pub returns-then-is_complete : goal.returns-then-is_complete
returns-then-is_complete t c =
    let behind = lineage_of c.newest_brought-behind.result.now in
    newest-front c.args.copies.now c.first-item.result (lineage_of c.args.last.now) behind (lineage_of c.newest_of.result.now)
    c.in-len1-up.len_at_least c.first-item.is (sym c.is_complete.ensures ∙ c.if-is_complete.true)
    (c.newest_of.ensures ∙ ap (λ (kept : List KeptPiece). newest_with behind (map (λ (piece : KeptPiece). piece.contents) kept)) c.as_slice.ensures) c.newest_brought-behind.ensures
