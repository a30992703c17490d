use Rattle.std.proofs.Common.{◌≡◌, ◌+◌, ◌-◌, ◌^◌, List, length, take, drop, ap, ◌∙◌}
use Rattle.std.specs.Arc.{arc_value}
use Rattle.wire.specs.declared.contents.Contents.{Contents}
use Rattle.volume_model.specs.Common.{records_in, contents_of}
use Rattle.redo_record.specs.Common.{records_of}
use Rattle.hydration.specs.declared.copied.Copied.{Copied}
use Rattle.hydration.specs.Copies.{copies_in}
use Rattle.recovery.proofs.Bounds.{copies-first, counted-own}
use Rattle.recovery.proofs.reported.+records_in.Goals as goal

pub returns-in-len1-up : goal.returns-in-len1-up
returns-in-len1-up t c =
    let copies : List Copied = c.args.copies.now in
    let first = c.first-item.result in
    let rest : List Copied = take (length copies - 1) (drop 1 copies) in
    let all : records_in (contents_of (copies_in copies)) ≡ length (records_of (arc_value first.contents).records) + records_in (contents_of (copies_in rest)) = ap records_in (copies-first copies first c.in-len1-up.len_at_least c.first-item.is) in
    counted-own (2 ^ 64 - 1) (records_in (contents_of (copies_in copies))) (length (records_of (arc_value first.contents).records)) (records_in (contents_of (copies_in rest))) c.records_in.result c.len.result c.saturating_add.result
    all c.records_in.ensures (c.len.ensures ∙ ap (λ (k : Contents). length (records_of k.records)) c.deref.ensures) c.saturating_add.ensures
