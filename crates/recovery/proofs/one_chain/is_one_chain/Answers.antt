use Rattle.std.proofs.Common.{◌∙◌, List, [], take, ap, sym}
use Rattle.volume_model.specs.Common.{added, Redo}
use Rattle.redo_record.specs.declared.run.Run.{Run}
use Rattle.redo_record.specs.Common.{joined, run_records, runs_in, shared_redo}
use Rattle.recovery.specs.Chains.{is_chain_to, GoesOn}
use Rattle.recovery.proofs.OneChain.{packets-go_on, runs-more}
use Rattle.recovery.proofs.Sharing.{added-append}
use Rattle.recovery.proofs.one_chain.is_one_chain.Goals as goal

pub loop-run-preserved : goal.loop-run-preserved
loop-run-preserved c =
    let runs : List Run = c.runs-run-items.result.now in
    let run : Run = c.run-item.result in
    let before : List Redo = joined (runs_in (take c.loop-run.run-index runs)) in
    let links = ap (λ (r : Redo). r.prev_volume) (sym c.«record».ensures) ∙ c.if-record-last.false in
    let on : GoesOn c.loop-run.last (run_records run) (shared_redo c.in-Some-last.end.now).lsn =
    packets-go_on c.as_slice-packets.result.now (run_records run) c.in-Some.first.now c.in-Some-last.end.now c.loop-run.last c.as_slice-packets.ensures.records c.in-Some.ensures.item.3.0 c.in-Some.ensures.item.1 c.in-Some-last.ensures.item.1 links (c.is_volume_chain.ensures c.if-not-is_volume_chain.false) in
    ap (λ (rs : List Redo). is_chain_to c.lsn-last.result (added rs [])) (runs-more runs c.loop-run.run-index run c.loop-run-test.true c.run-item.is)
    ∙ ap (is_chain_to c.lsn-last.result) (added-append before (run_records run) [])
    ∙ ap (λ n. is_chain_to n (added (run_records run) (added before []))) c.lsn-last.ensures
    ∙ on (added before []) c.loop-run.invariant
