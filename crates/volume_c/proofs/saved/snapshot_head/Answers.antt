use Rattle.std.proofs.Common.{rules, ◌≡◌, ◌∷◌, ◌++◌, [], List, ℕ, length, ap, ◌∙◌, subst}
use Rattle.std.specs.Int.{w32, w64, to_be_bytes}
use Rattle.wire.specs.Common.{contents_of}
use Rattle.wire.specs.declared.contents.Contents.{Contents}
use Rattle.volume_model.specs.Node.{Node}
use Rattle.segment_core.specs.Snapshot.{node_in}
use Rattle.message_bytes.specs.Spelling.{place_spelled, contents_head, lineage_spelled, records_spelled}
use Rattle.message_bytes.proofs.Back.{AreBack}
use Rattle.volume_c.specs.Saved.{flag_spelled}
use Rattle.volume_c.proofs.Back.{segment-back}
use Rattle.volume_c.proofs.Pieces.{head-then}
use Rattle.volume_c.proofs.saved.snapshot_head.Goals as goal

pub returns-clause-text : goal.returns-clause-text
returns-clause-text c =
    let n : Node = node_in c.args.snapshot.now in
    let head : c.put_contents_head.new.out.items ≡ (1 ∷ 129 ∷ []) ++ (to_be_bytes w32 n.volume
    ++ (place_spelled n.place ++ (flag_spelled n.whole ∷ (to_be_bytes w64 n.copied ++ contents_head n.contents)))) = search rules in
    ap (λ (t : List ℕ). t ++ records_spelled n.contents.records) head
    ∙ head-then (to_be_bytes w32 n.volume) (place_spelled n.place) (to_be_bytes w64 n.copied) (lineage_spelled n.contents.lineage) (to_be_bytes w32 (length n.contents.records)) (records_spelled n.contents.records) (flag_spelled n.whole)

pub returns-clause-reads : goal.returns-clause-reads
returns-clause-reads c =
    let n : Node = node_in c.args.snapshot.now in
    let back : AreBack n.contents = subst (λ (x : Contents). AreBack (contents_of x)) c.deref.ensures c.in_ok-put_contents_head.ensures.reads in
    segment-back n.volume n.place n.whole n.copied n.contents c.put_u32.ensures.fits c.put_place.ensures.fits c.put_u64.ensures.fits back
