use Rattle.std.proofs.Common.{◌≡◌, ◌<◌, ◌∙◌, List, length, ap, arith}
use Rattle.std.proofs.lemmas.List.{length-map}
use Rattle.std.specs.List.{slice_set}
use Rattle.redo_record.specs.Joined.{joined}
use Rattle.redo_record.specs.Run.{run_records, runs_in}
use Rattle.redo_record.specs.declared.run.Run.{Run}
use Rattle.redo_record.proofs.RunLists.{runs-same}
use Rattle.redo_record.proofs.Sound.{sound, sound-same}
use Rattle.redo_record.proofs.record_set.RecordSet.share.Goals as goal

pub index_mut-requires : goal.index_mut-requires
index_mut-requires c = omega (arith, ap length c.loop-index.invariant, length-map c.loop-index.self.runs.items run_records, length-map c.args.self.now.runs.items run_records)

pub invariant_of-self : goal.invariant_of-self
invariant_of-self c =
    let runs : List Run = c.loop-index.self.runs.items in
    let within : c.loop-index.index < length runs = omega (arith, ap length c.loop-index.invariant, length-map runs run_records, length-map c.args.self.now.runs.items run_records) in
    let same : runs_in (slice_set runs c.loop-index.index c.share.new.self) ≡ runs_in runs = runs-same runs c.loop-index.index c.index_mut.result.now c.share.new.self within c.index_mut.ensures.value c.share.ensures in
    let s = sound-same runs (slice_set runs c.loop-index.index c.share.new.self) c.loop-index.self.len c.loop-index.self.known_group same (sound c.loop-index.self) in
    record { in_order = s.in_order; filled = s.filled; counted = s.counted; of_known_group = s.of_known_group }

pub returns-in_err-share : goal.returns-in_err-share
returns-in_err-share c =
    let runs : List Run = c.loop-index.self.runs.items in
    let within : c.loop-index.index < length runs = omega (arith, ap length c.loop-index.invariant, length-map runs run_records, length-map c.args.self.now.runs.items run_records) in
    ap joined (runs-same runs c.loop-index.index c.index_mut.result.now c.share.new.self within c.index_mut.ensures.value c.share.ensures ∙ c.loop-index.invariant)

pub loop-index-preserved : goal.loop-index-preserved
loop-index-preserved c =
    let runs : List Run = c.loop-index.self.runs.items in
    let within : c.loop-index.index < length runs = omega (arith, ap length c.loop-index.invariant, length-map runs run_records, length-map c.args.self.now.runs.items run_records) in
    runs-same runs c.loop-index.index c.index_mut.result.now c.share.new.self within c.index_mut.ensures.value c.share.ensures ∙ c.loop-index.invariant
