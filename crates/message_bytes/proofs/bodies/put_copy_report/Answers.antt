use Rattle.std.proofs.Common.{ℕ, ◌<◌, ◌^◌, List, [], ◌∷◌, ◌++◌, ap, subst, ◌∙◌}
use Rattle.std.specs.Int.{w32, w64, to_be_bytes}
use Rattle.wire.specs.declared.message.CopyPart.{CopyPart}
use Rattle.wire.specs.Common.{contents_of, piece_in}
use Rattle.message_bytes.specs.Spelling.{piece_spelled, contents_spelled}
use Rattle.message_bytes.proofs.Again.{copied}
use Rattle.message_bytes.proofs.Back.{AreBack, copy_report_back}
use Rattle.message_bytes.proofs.bodies.put_copy_report.Goals as goal

pub returns-clause-text : goal.returns-clause-text
returns-clause-text c =
    let r = c.args.report.now in
    let o = c.args.out.now.items in
    let e = to_be_bytes w32 r.epoch in
    let s = to_be_bytes w64 c.deref.result.now.series in
    let p = piece_spelled (piece_in r.piece r.of) in
    let t = contents_spelled (contents_of c.deref-2.result.now.contents) in
    let first = c.in_ok-put_u32.ensures.text ∙ ap (λ (x : List ℕ). x ++ e) c.in_ok-push.ensures.items in
    let second = c.in_ok-put_u64.ensures.text ∙ ap (λ (x : List ℕ). x ++ s) (c.in_ok-push-2.ensures.items ∙ ap (λ (x : List ℕ). x ++ r.from ∷ []) first) in
    c.in_ok-put_contents.ensures.text ∙ ap (λ (x : List ℕ). x ++ t) (c.in_ok-put_piece.ensures.text ∙ ap (λ (x : List ℕ). x ++ p) second) ∙ copied o e s p t r.group r.from
    ∙ ap (λ (x : CopyPart). o ++ ((r.group ∷ e) ++ ((r.from ∷ to_be_bytes w64 x.series) ++ (p ++ t)))) c.deref.ensures
    ∙ ap (λ (x : CopyPart). o ++ ((r.group ∷ e) ++ ((r.from ∷ to_be_bytes w64 r.part.value.series) ++ (p ++ contents_spelled (contents_of x.contents))))) c.deref-2.ensures

pub returns-clause-reads : goal.returns-clause-reads
returns-clause-reads c =
    let r = c.args.report.now in
    let back : AreBack (contents_of r.part.value.contents) = subst (λ (x : CopyPart). AreBack (contents_of x.contents)) c.deref-2.ensures c.in_ok-put_contents.ensures.reads in
    let few : r.part.value.series < 2 ^ 64 = subst (λ (x : CopyPart). x.series < 2 ^ 64) c.deref.ensures c.in_ok-put_u64.ensures.fits in
    copy_report_back r.group r.epoch r.from r.part.value.series (piece_in r.piece r.of) (contents_of r.part.value.contents) c.in_ok-put_u32.ensures.fits few c.in_ok-put_piece.ensures.number c.in_ok-put_piece.ensures.count back
