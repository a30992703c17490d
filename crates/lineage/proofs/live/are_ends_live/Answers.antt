use Rattle.std.proofs.Common.{◌≡◌, ◌<◌, ◌-◌, ◌∙◌, true, List, length, map, get_or, ap, ap₂, sym, subst, arith}
use Rattle.std.proofs.lemmas.List.{get_or-map, length-map}
use Rattle.volume_model.specs.Common.{is_live, IsIn, Redo}
use Rattle.redo_record.specs.Common.{shared_redo}
use Rattle.redo_record.specs.declared.shared_record.SharedRecord.{SharedRecord}
use Rattle.redo_record.proofs.Places.{IsIn-get_or}
use Rattle.lineage.specs.Lineage.{lineage_of}
use Rattle.lineage.proofs.LiveRecords.{all-live, between, live-between}
use Rattle.lineage.proofs.live.are_ends_live.Goals as goal
use Rattle.std.proofs.lemmas.Grind.{common_steps}

pub returns-then-is_live_by-clause-live : goal.returns-then-is_live_by-clause-live
returns-then-is_live_by-clause-live c h =
    let lineage = lineage_of c.args.lineage.now in
    let packets : List SharedRecord = c.args.packets.now in
    let xs : List Redo = map shared_redo packets in
    let a : Redo = shared_redo c.index-packets-0.result in
    let b : Redo = shared_redo c.index-packets-packets.result in
    let some : 0 < length xs = omega (arith, c.requires.some, length-map packets shared_redo) in
    let first : (d : Redo) → a ≡ get_or xs 0 d = λ d. ap shared_redo c.index-packets-0.is ∙ sym (get_or-map shared_redo packets 0 c.index-packets-0.result d c.requires.some) in
    let last : (d : Redo) → b ≡ get_or xs (length xs - 1) d = grind (arith, common_steps) in
    let of_a : (r : Redo) → IsIn r xs → r.volume ≡ a.volume = λ r i. c.requires.alike r a i (subst (λ s. IsIn s xs) (sym (first a)) (IsIn-get_or xs 0 a some)) in
    let same : b.volume ≡ a.volume = of_a b (subst (λ s. IsIn s xs) (sym (last b)) (IsIn-get_or xs (length xs - 1) b (omega (arith, some)))) in
    all-live lineage xs (λ r i.
    let bounds = between xs a b c.requires.in_order first last r i in
    subst (λ e. is_live lineage e r.lsn ≡ true) (sym (of_a r i))
    (live-between lineage a.volume a.lsn b.lsn r.lsn
    (sym (c.is_live_by.ensures.live ∙ ap₂ (is_live lineage) c.volume_epoch.ensures c.lsn.ensures) ∙ c.if-is_live_by.true)
    (sym (c.is_live_by-then-is_live_by.ensures.live ∙ ap₂ (is_live lineage) (c.volume_epoch-then-is_live_by.ensures ∙ same) c.lsn-then-is_live_by.ensures) ∙ h)
    bounds.0 bounds.1))
