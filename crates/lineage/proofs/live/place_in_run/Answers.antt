use Rattle.std.proofs.Common.{◌≡◌, ◌<◌, ◌≤◌, ◌-◌, ◌∙◌, ℕ, List, length, map, take, drop, ap, sym, subst, arith}
use Rattle.volume_model.specs.Common.{Redo}
use Rattle.redo_record.specs.Common.{run_records, shared_redo}
use Rattle.redo_record.specs.declared.shared_record.SharedRecord.{SharedRecord}
use Rattle.redo_record.proofs.Parts.{part-shown}
use Rattle.lineage.specs.Lineage.{lineage_of}
use Rattle.lineage.specs.Live.{AreOfOneEpoch}
use Rattle.lineage.proofs.LiveRecords.{IsAmong, in_order-among, packets-among, parts-among_dead, parts-among_live}
use Rattle.lineage.proofs.live.place_in_run.Goals as goal
use Rattle.std.proofs.lemmas.Grind.{common_steps}

-- the records of one volume epoch, among those of the run
epoch-among : (packets : List SharedRecord) (records : List Redo) (from to : ℕ) → map shared_redo packets ≡ records → from < to → to ≤ length packets → IsAmong records (map shared_redo (take (to - from) (drop from packets))) from to
epoch-among packets records from to shown before within = grind (arith, common_steps, IsAmong, packets-among)

pub epoch_start-start-requires-clause-within : goal.epoch_start-start-requires-clause-within
epoch_start-start-requires-clause-within c = grind (arith, common_steps)

pub place_in_epoch-requires-clause-in_order : goal.place_in_epoch-requires-clause-in_order
place_in_epoch-requires-clause-in_order c =
    let packets : List SharedRecord = c.as_slice-packets.result.now in
    let from = c.epoch_start-start.result in
    let to = c.loop-left.left in
    let records : List Redo = run_records c.args.run.now in
    in_order-among records (map shared_redo (take (to - from) (drop from packets))) from to
    (epoch-among packets records from to c.as_slice-packets.ensures.records c.epoch_start-start.ensures.before c.loop-left.invariant.left) c.requires.in_order

pub place_in_epoch-requires-clause-alike : goal.place_in_epoch-requires-clause-alike
place_in_epoch-requires-clause-alike c =
    let packets : List SharedRecord = c.as_slice-packets.result.now in
    let from = c.epoch_start-start.result in
    let to = c.loop-left.left in
    subst AreOfOneEpoch (sym (part-shown shared_redo packets from (to - from) ∙ ap (λ (xs : List Redo). take (to - from) (drop from xs)) c.as_slice-packets.ensures.records)) c.epoch_start-start.ensures.alike

pub loop-left-preserved-in-Some : goal.loop-left-preserved-in-Some
loop-left-preserved-in-Some c =
    let packets : List SharedRecord = c.as_slice-packets.result.now in
    let from = c.epoch_start-start.result in
    let to = c.loop-left.left in
    record {
      parts = parts-among_dead (lineage_of c.args.lineage.now) (map shared_redo packets) (map shared_redo (take (to - from) (drop from packets))) from to c.in-Some.within
          (packets-among packets from to (omega (arith, c.epoch_start-start.ensures.before)) c.loop-left.invariant.left) c.in-Some.ensures.parts;
      left = omega (arith, c.epoch_start-start.ensures.before, c.loop-left.invariant.left);
      walks = c.place_in_epoch.ensures.walks;
    }

pub loop-left-preserved : goal.loop-left-preserved
loop-left-preserved c =
    let packets : List SharedRecord = c.as_slice-packets.result.now in
    let from = c.epoch_start-start.result in
    let to = c.loop-left.left in
    record {
      parts = parts-among_live (lineage_of c.args.lineage.now) (map shared_redo packets) (map shared_redo (take (to - from) (drop from packets))) from to c.loop-left.place
          (packets-among packets from to (omega (arith, c.epoch_start-start.ensures.before)) c.loop-left.invariant.left) c.in_default.ensures.parts c.loop-left.invariant.parts;
      left = omega (arith, c.epoch_start-start.ensures.before, c.loop-left.invariant.left);
      walks = c.place_in_epoch.ensures.walks;
    }
