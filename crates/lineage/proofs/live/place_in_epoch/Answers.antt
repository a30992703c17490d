use Rattle.std.proofs.Common.{◌≡◌, ◌<◌, ◌-◌, ◌∙◌, List, true, length, map, ap, ap₂, sym, arith}
use Rattle.std.proofs.lemmas.List.{get_or-map, length-map}
use Rattle.volume_model.specs.Common.{is_live}
use Rattle.redo_record.specs.Common.{shared_redo}
use Rattle.redo_record.specs.declared.shared_record.SharedRecord.{SharedRecord}
use Rattle.lineage.specs.Lineage.{lineage_of}
use Rattle.lineage.proofs.LiveRecords.{parts-record}
use Rattle.lineage.proofs.live.place_in_epoch.Goals as goal

pub loop-left-preserved : goal.loop-left-preserved
loop-left-preserved c =
    let lineage = lineage_of c.args.lineage.now in
    let packets : List SharedRecord = c.args.packets.now in
    let n = c.loop-left.left in
    let p : SharedRecord = c.index-packets-left.result in
    let within : n - 1 < length packets = omega (arith, c.loop-left-test.true, c.loop-left.invariant.left) in
    let live : is_live lineage (shared_redo p).volume (shared_redo p).lsn ≡ true = sym (c.is_live_by.ensures.live ∙ ap₂ (is_live lineage) c.volume_epoch.ensures c.lsn.ensures) ∙ c.if-not-is_live_by.false in
    record {
      parts = parts-record lineage (map shared_redo packets) n c.loop-left.place (shared_redo p) c.loop-left-test.true (omega (arith, c.loop-left.invariant.left, length-map packets shared_redo))
          (λ d. ap shared_redo c.index-packets-left.is ∙ sym (get_or-map shared_redo packets (n - 1) p d within)) live c.loop-left.invariant.parts;
      left = omega (arith, within);
      walks = c.is_live_by.ensures.walks;
    }
