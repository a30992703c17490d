use Rattle.std.proofs.Common.{ℕ, List, [], ◌∷◌, ◌++◌, ap, subst, ◌∙◌}
use Rattle.std.specs.Arc.{arc_value}
use Rattle.wire.specs.declared.contents.Contents.{Contents}
use Rattle.wire.specs.Common.{contents_of, label_of}
use Rattle.message_bytes.specs.Spelling.{labelled_spelled, contents_spelled}
use Rattle.message_bytes.proofs.Again.{three}
use Rattle.message_bytes.proofs.Back.{AreBack, report_back}
use Rattle.message_bytes.proofs.bodies.put_report.Goals as goal

pub returns-clause-text : goal.returns-clause-text
returns-clause-text c =
    let r = c.args.report.now in
    let o = c.args.out.now.items in
    let l = labelled_spelled r.group (label_of r.label) in
    let t = contents_spelled (contents_of c.deref.result.now) in
    c.in_ok-put_contents.ensures.text ∙ ap (λ (x : List ℕ). x ++ t) (c.in_ok-push.ensures.items ∙ ap (λ (x : List ℕ). x ++ r.from ∷ []) c.in_ok-put_labelled.ensures.text) ∙ three o l (r.from ∷ []) t
    ∙ ap (λ (x : Contents). o ++ (l ++ (r.from ∷ contents_spelled (contents_of x)))) c.deref.ensures

pub returns-clause-reads : goal.returns-clause-reads
returns-clause-reads c =
    let r = c.args.report.now in
    let back : AreBack (contents_of (arc_value r.contents)) = subst (λ (x : Contents). AreBack (contents_of x)) c.deref.ensures c.in_ok-put_contents.ensures.reads in
    report_back r.group (label_of r.label) r.from (contents_of (arc_value r.contents)) (record { volume = c.in_ok-put_labelled.ensures.volume; member = c.in_ok-put_labelled.ensures.member }) back
