use Rattle.std.proofs.Common.{◌≡◌, ℕ, ◌+◌, ◌-◌, List, length, drop, map, arith}
use Rattle.std.proofs.lemmas.List.{drop_all, drop-append-le, drop-drop, length-map}
use Rattle.volume_model.specs.Common.{Redo}
use Rattle.redo_record.specs.Common.{joined, runs_in, shared_redo}
use Rattle.redo_record.specs.declared.run.Run.{Run}
use Rattle.redo_record.specs.declared.shared_record.SharedRecord.{SharedRecord}
use Rattle.redo_record.proofs.RunLists.{joined-drop}
use Rattle.writer_core.proofs.Ending.{ends-in-run}
use Rattle.writer_core.proofs.lookup.run_before.Goals as goal
use Rattle.std.proofs.lemmas.Grind.{common_steps}

pub loop-run-preserved : goal.loop-run-preserved
loop-run-preserved c =
    let runs : List Run = c.args.runs.now in
    let all : List Redo = joined (runs_in runs) in
    let packets : List SharedRecord = c.as_slice-packets.result.now in
    let i : ℕ = c.loop-run.run-index in
    let left : ℕ = c.loop-run.left in
    let rest : List Redo = joined (runs_in (drop (i + 1) runs)) in
    let long : length (map shared_redo packets) ≡ length packets = length-map packets shared_redo in
    grind (arith, common_steps, c.loop-run.invariant.few, c.if-left-packets.false, (drop-drop (length packets) (c.args.place - left) all), (drop-append-le (length packets) (map shared_redo packets) rest (omega arith)), (drop_all (length packets) (map shared_redo packets) (omega arith)))

pub returns-then-left-packets-clause-before : goal.returns-then-left-packets-clause-before
returns-then-left-packets-clause-before c =
    let runs : List Run = c.args.runs.now in
    let i : ℕ = c.loop-run.run-index in
    grind (arith, common_steps, c.loop-run.invariant.few, c.if-left-packets.true, c.loop-run.invariant.rest, c.loop-run-test.true, c.run-item.is, c.as_slice-packets.ensures.records, ends-in-run, joined-drop)

pub returns : goal.returns
returns c =
    let runs : List Run = c.args.runs.now in
    let all : List Redo = joined (runs_in runs) in
    let nothing : length (drop (c.args.place - c.loop-run.left) all) ≡ 0 = grind (arith, common_steps) in
    grind (arith, common_steps)
