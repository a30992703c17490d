use Rattle.std.proofs.Common.{◌≡◌, ◌<◌, ◌≤◌, ◌+◌, ◌-◌, ◌∙◌, ◌++◌, ℕ, List, [], length, take, drop, map, get_or, ap, sym, subst, arith}
use Rattle.std.proofs.lemmas.List.{drop_all, length-map}
use Rattle.std.specs.List.{flat_map}
use Rattle.redo_record.specs.Run.{run_packets}
use Rattle.redo_record.specs.SharedRecord.{shared_redo}
use Rattle.redo_record.specs.declared.run.Run.{Run}
use Rattle.redo_record.specs.declared.shared_record.SharedRecord.{SharedRecord}
use Rattle.redo_record.proofs.RunLists.{drop-both, drop-nil, packets-drop, shown-drop}
use Rattle.redo_record.proofs.record_set.RecordSet.records_from.Goals as goal
use Rattle.std.proofs.lemmas.Grind.{common_steps}

-- from a place within the first run on
from-within : (left : ℕ) (s packets : List SharedRecord) (d runs : List Run) (i : ℕ) (all : List SharedRecord) (run : Run) → s ≡ run_packets run → d ≡ runs → i < length runs → run ≡ get_or runs i run → left ≤ length (run_packets run) → drop left (flat_map run_packets (drop i runs)) ≡ all
    → take (length s - left) (drop left s) ++ flat_map run_packets (take (length d - (i + 1)) (drop (i + 1) d)) ≡ all
from-within left s packets d runs i all run is_s is_d l is w inv = grind (arith, common_steps)

pub returns-then-left-len-clause-packets : goal.returns-then-left-len-clause-packets
returns-then-left-len-clause-packets c = grind (arith, common_steps)

pub returns-then-left-len-clause-records : goal.returns-then-left-len-clause-records
returns-then-left-len-clause-records c = grind (arith, common_steps, c.deref-run-items.ensures.value, c.loop-index-test.true, c.run-item.is, c.as_slice.ensures.packets, c.deref.ensures.value, c.if-left-len.true, c.len.ensures, c.loop-index.invariant, from-within, length-map, shown-drop)

pub loop-index-preserved : goal.loop-index-preserved
loop-index-preserved c = grind (arith, common_steps, c.deref-run-items.ensures.value, c.loop-index-test.true, c.run-item.is, c.len-left.ensures, c.if-left-len.false, c.len.ensures, c.loop-index.invariant, ℕ, length-map, drop_all, drop-both, packets-drop)

pub returns-clause-records : goal.returns-clause-records
returns-clause-records c =
    let runs : List Run = c.args.self.now.runs.items in
    let past : length runs ≤ c.loop-index.index = subst (λ (rs : List Run). length rs ≤ c.loop-index.index) c.deref-run-items.ensures.value c.loop-index-test.false in
    let nothing : drop c.loop-index.left (flat_map run_packets (drop c.loop-index.index runs)) ≡ [] = drop-nil c.loop-index.left (flat_map run_packets (drop c.loop-index.index runs)) (ap (flat_map run_packets) (drop_all c.loop-index.index runs past)) in
    ap (map shared_redo) (sym nothing ∙ c.loop-index.invariant) ∙ shown-drop runs c.args.place
