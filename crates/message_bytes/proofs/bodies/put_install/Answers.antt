use Rattle.std.proofs.Common.{ℕ, List, ◌++◌, ap, subst, ◌∙◌}
use Rattle.wire.specs.declared.contents.Contents.{Contents}
use Rattle.wire.specs.Common.{contents_of, piece_in, label_of}
use Rattle.message_bytes.specs.Spelling.{labelled_spelled, piece_spelled, contents_spelled}
use Rattle.message_bytes.proofs.Again.{three}
use Rattle.message_bytes.proofs.Back.{AreBack, install_back}
use Rattle.message_bytes.proofs.bodies.put_install.Goals as goal

pub returns-clause-text : goal.returns-clause-text
returns-clause-text c =
    let i = c.args.install.now in
    let o = c.args.out.now.items in
    let l = labelled_spelled i.group (label_of i.label) in
    let p = piece_spelled (piece_in i.piece i.of) in
    let t = contents_spelled (contents_of c.deref.result.now) in
    c.in_ok-put_contents.ensures.text ∙ ap (λ (x : List ℕ). x ++ t) (c.in_ok-put_piece.ensures.text ∙ ap (λ (x : List ℕ). x ++ p) c.in_ok-put_labelled.ensures.text) ∙ three o l p t
    ∙ ap (λ (x : Contents). o ++ (l ++ (p ++ contents_spelled (contents_of x)))) c.deref.ensures

pub returns-clause-reads : goal.returns-clause-reads
returns-clause-reads c =
    let i = c.args.install.now in
    let back : AreBack (contents_of i.contents.value) = subst (λ (x : Contents). AreBack (contents_of x)) c.deref.ensures c.in_ok-put_contents.ensures.reads in
    install_back i.group (label_of i.label) (piece_in i.piece i.of) (contents_of i.contents.value) (record { volume = c.in_ok-put_labelled.ensures.volume; member = c.in_ok-put_labelled.ensures.member }) c.in_ok-put_piece.ensures.number c.in_ok-put_piece.ensures.count back
