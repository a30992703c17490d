use Rattle.std.proofs.Common.{◌≡◌, ◌∙◌, List, length, ap, sym, arith}
use Rattle.std.proofs.lemmas.List.{length-map}
use Rattle.redo_record.specs.Common.{run_records, shared_redo}
use Rattle.redo_record.specs.declared.run.Run.{Run}
use Rattle.lineage.proofs.LiveRecords.{in_order-run, parts-run_dead, parts-run_live, run-before}
use Rattle.lineage.proofs.live.place_in_set.Goals as goal
use Rattle.std.proofs.lemmas.Grind.{common_steps}
use Rattle.std.proofs.Common.{rules}

pub place_in_run-requires-clause-in_order : goal.place_in_run-requires-clause-in_order
place_in_run-requires-clause-in_order c = grind (arith, common_steps, c.runs-runs.ensures, c.loop-index-test.true, c.loop-index.invariant.index, c.index-runs-index.is, in_order-run)

pub loop-index-preserved-in-Some : goal.loop-index-preserved-in-Some
loop-index-preserved-in-Some c =
    let runs : List Run = c.runs-runs.result.now in
    let run : Run = c.index-runs-index.result in
    let len = length c.as_slice.result.now in
    let counted : len ≡ length (run_records run) = sym (length-map c.as_slice.result.now shared_redo) ∙ ap length c.as_slice.ensures.records in
    let at = run-before runs c.loop-index.index c.loop-index.before len run c.loop-index-test.true c.loop-index.invariant.index c.index-runs-index.is c.loop-index.invariant.at counted in
    search (rules, c.in-Some.ensures.parts, c.loop-index.invariant.index, c.place_in_run.ensures.walks, parts-run_dead)

pub loop-index-preserved : goal.loop-index-preserved
loop-index-preserved c =
    let runs : List Run = c.runs-runs.result.now in
    let run : Run = c.index-runs-index.result in
    let len = length c.as_slice.result.now in
    let counted : len ≡ length (run_records run) = sym (length-map c.as_slice.result.now shared_redo) ∙ ap length c.as_slice.ensures.records in
    let at = run-before runs c.loop-index.index c.loop-index.before len run c.loop-index-test.true c.loop-index.invariant.index c.index-runs-index.is c.loop-index.invariant.at counted in
    grind (arith, common_steps, c.in_default.ensures.parts, c.loop-index.invariant.parts, c.loop-index.invariant.index, c.place_in_run.ensures.walks, parts-run_live)
