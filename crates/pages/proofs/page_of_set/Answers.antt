use Rattle.std.proofs.Common.{◌≡◌, ◌+◌, ◌++◌, List, drop, sym, ap, subst, ◌∙◌}
use Rattle.volume_model.specs.Common.{Redo, page_from}
use Rattle.redo_record.specs.Common.{joined, run_records, runs_in}
use Rattle.redo_record.specs.declared.run.Run.{Run}
use Rattle.redo_record.proofs.RunLists.{joined-drop}
use Rattle.pages.proofs.Parted.{page_joined}
use Rattle.pages.proofs.Runs.{AreOfBlock, of_block-first, of_block-rest, packets-of_block}
use Rattle.pages.proofs.page_of_set.Goals as goal
use Rattle.std.proofs.lemmas.Grind.{common_steps}
use Rattle.std.proofs.Common.{arith}

pub loop-run-init : goal.loop-run-init
loop-run-init c = grind (arith, common_steps)

pub write_run-requires : goal.write_run-requires
write_run-requires c =
    let runs : List Run = c.runs-run-items.result.now in
    let run : Run = c.run-item.result in
    let rest : List Redo = joined (runs_in (drop (c.loop-run.run-index + 1) runs)) in
    let here : joined (runs_in (drop c.loop-run.run-index runs)) ≡ run_records run ++ rest = joined-drop runs c.loop-run.run-index run c.loop-run-test.true c.run-item.is in
    let all : AreOfBlock c.args.block (run_records run ++ rest) = subst (AreOfBlock c.args.block) here c.loop-run.invariant.0 in
    packets-of_block c.args.block c.as_slice.result.now (run_records run) c.as_slice.ensures.records (of_block-first c.args.block (run_records run) rest all)

pub loop-run-preserved : goal.loop-run-preserved
loop-run-preserved c =
    let runs : List Run = c.runs-run-items.result.now in
    let run : Run = c.run-item.result in
    let rest : List Redo = joined (runs_in (drop (c.loop-run.run-index + 1) runs)) in
    let here : joined (runs_in (drop c.loop-run.run-index runs)) ≡ run_records run ++ rest = joined-drop runs c.loop-run.run-index run c.loop-run-test.true c.run-item.is in (
      of_block-rest c.args.block (run_records run) rest (subst (AreOfBlock c.args.block) here c.loop-run.invariant.0),
      ap (λ page. page_from page c.args.block c.args.point rest) (c.write_run.ensures ∙ ap (page_from c.loop-run.page c.args.block c.args.point) c.as_slice.ensures.records)
          ∙ page_joined c.loop-run.page c.args.block c.args.point (run_records run) rest
          ∙ ap (page_from c.loop-run.page c.args.block c.args.point) (sym here)
          ∙ c.loop-run.invariant.1,
    )

pub returns : goal.returns
returns c = grind (arith, common_steps)
