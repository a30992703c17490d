use Rattle.std.proofs.Common.{◌≡◌, ◌<◌, ◌≤◌, ◌-◌, ◌∙◌, ℕ, List, length, map, take, drop, ap, sym, subst, refl, arith}
use Rattle.std.proofs.lemmas.List.{get_or-map, length-map}
use Rattle.volume_model.specs.Common.{Redo}
use Rattle.redo_record.specs.Common.{run_records, shared_redo}
use Rattle.redo_record.specs.declared.shared_record.SharedRecord.{SharedRecord}
use Rattle.lineage.specs.Live.{AreOfOneEpoch}
use Rattle.lineage.proofs.LiveRecords.{AreOfEpoch, of_epoch-more, of_one_epoch, part_of_one_epoch}
use Rattle.lineage.proofs.live.epoch_start.Goals as goal

pub returns-in-Some-clause-alike : goal.returns-in-Some-clause-alike
returns-in-Some-clause-alike c = part_of_one_epoch c.in-Some.field-0 0 (c.args.left - 0) (run_records c.args.run.now) (c.in-Some.ensures c.in-Some.field-0 refl)

pub loop-start-init : goal.loop-start-init
loop-start-init c =
    let packets : List SharedRecord = c.as_slice-packets.result.now in
    let p : SharedRecord = c.index-packets-start.result in
    let all : length packets ≡ length (run_records c.args.run.now) = sym (length-map packets shared_redo) ∙ ap length c.as_slice-packets.ensures.records in
    record {
      before = omega (arith, c.requires.some);
      alike = of_epoch-more c.volume_epoch-volume_epoch.result c.args.left c.args.left (map shared_redo packets) (shared_redo p) c.requires.some
          (λ d. ap shared_redo c.index-packets-start.is ∙ sym (get_or-map shared_redo packets (c.args.left - 1) p d (omega (arith, all, c.requires.some, c.requires.within))))
          (sym c.volume_epoch-volume_epoch.ensures) (λ k d low high. absurd (omega arith));
    }

pub loop-start-preserved : goal.loop-start-preserved
loop-start-preserved c =
    let packets : List SharedRecord = c.as_slice-packets.result.now in
    let p : SharedRecord = c.index-packets-start-in-loop-start.result in
    let at = c.loop-start.start in
    let all : length packets ≡ length (run_records c.args.run.now) = sym (length-map packets shared_redo) ∙ ap length c.as_slice-packets.ensures.records in
    record {
      before = omega (arith, c.loop-start.invariant.before);
      alike = of_epoch-more c.volume_epoch-volume_epoch.result at c.args.left (map shared_redo packets) (shared_redo p) c.loop-start-test.true
          (λ d. ap shared_redo c.index-packets-start-in-loop-start.is ∙ sym (get_or-map shared_redo packets (at - 1) p d (omega (arith, all, c.loop-start.invariant.before, c.requires.within))))
          (sym c.volume_epoch-in-loop-start.ensures ∙ c.if-volume_epoch.true) c.loop-start.invariant.alike;
    }

-- the records from where the loop ends on
ended : (v from to : ℕ) (records shown : List Redo) → shown ≡ records → from < to → to ≤ length records → AreOfEpoch v from to shown → AreOfOneEpoch (take (to - from) (drop from records))
ended v from to records shown is before within each = of_one_epoch v from to records (omega (arith, before)) within (subst (AreOfEpoch v from to) is each)

pub returns-else-volume_epoch-clause-alike : goal.returns-else-volume_epoch-clause-alike
returns-else-volume_epoch-clause-alike c = ended c.volume_epoch-volume_epoch.result c.loop-start.start c.args.left (run_records c.args.run.now) (map shared_redo c.as_slice-packets.result.now) c.as_slice-packets.ensures.records c.loop-start.invariant.before c.requires.within c.loop-start.invariant.alike

pub returns-after-loop-start-clause-alike : goal.returns-after-loop-start-clause-alike
returns-after-loop-start-clause-alike c = ended c.volume_epoch-volume_epoch.result c.loop-start.start c.args.left (run_records c.args.run.now) (map shared_redo c.as_slice-packets.result.now) c.as_slice-packets.ensures.records c.loop-start.invariant.before c.requires.within c.loop-start.invariant.alike
