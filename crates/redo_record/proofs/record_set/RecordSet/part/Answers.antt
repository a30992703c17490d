use Rattle.std.proofs.Common.{◌≡◌, ◌≤◌, ◌+◌, ◌-◌, ◌++◌, ◌∙◌, ℕ, min, List, [], length, take, drop, ap, sym, subst, arith}
use Rattle.std.proofs.lemmas.List.{length-take, length-drop}
use Rattle.volume_model.specs.Common.{Redo}
use Rattle.redo_record.specs.Groups.{IsKnownGroup}
use Rattle.redo_record.specs.Joined.{joined}
use Rattle.redo_record.specs.Order.{IsInOrder}
use Rattle.redo_record.specs.RecordSet.{records_of}
use Rattle.redo_record.specs.Run.{run_records, runs_in, AreFilled}
use Rattle.redo_record.specs.declared.run.Run.{Run}
use Rattle.redo_record.proofs.Parts.{in_order-part, known_group-part, length-part}
use Rattle.redo_record.proofs.RunLists.{filled-push, joined-drop, part-step}
use Rattle.redo_record.proofs.record_set.RecordSet.part.Goals as goal
use Rattle.std.proofs.lemmas.Grind.{common_steps}

pub loop-run-preserved : goal.loop-run-preserved
loop-run-preserved c =
    let runs : List Run = c.deref-run-items.result.now in
    let run : Run = c.run-item.result in
    let i : ℕ = c.loop-run.run-index in
    let skip : ℕ = c.loop-run.skip in
    let left : ℕ = c.loop-run.left in
    let count : ℕ = c.min-count.result in
    let done : List Redo = joined (runs_in c.loop-run.runs.items) in
    let now : List Redo = joined (runs_in c.if-count-gt0.runs.items) in
    let rest : List Redo = joined (runs_in (drop (i + 1) runs)) in
    let all : List Redo = take c.args.len (drop c.args.from (records_of c.args.self.now)) in
    let few : count ≡ min (length (run_records run) - skip) left = omega (arith, c.min-count.ensures, c.saturating_sub.ensures, c.len.ensures) in
    let here : done ++ take left (drop skip (run_records run ++ rest)) ≡ all = ap (λ rs. done ++ take left (drop skip rs)) (sym (joined-drop runs i run c.loop-run-test.true c.run-item.is)) ∙ c.loop-run.invariant.all in
    let step : (done ++ take count (drop skip (run_records run))) ++ take (left - count) (drop (skip - length (run_records run)) rest) ≡ all = part-step done all (run_records run) rest skip left count few here in
    let skipped : c.saturating_sub-skip.result ≡ skip - length (run_records run) = omega (arith, c.saturating_sub-skip.ensures, c.len-in-loop-run.ensures) in
    let filled : AreFilled (runs_in c.if-count-gt0.runs.items) = grind (arith, common_steps, c.if-count-gt0.branch, c.loop-run.invariant.filled, length-take, length-drop, filled-push) in
    grind (arith, common_steps)

pub returns : goal.returns
returns c = grind (arith, common_steps)

pub invariant_of-result : goal.invariant_of-result
invariant_of-result c =
    let ours : List Redo = records_of c.args.self.now in
    let done : List Redo = joined (runs_in c.loop-run.runs.items) in
    let all : done ≡ take c.args.len (drop c.args.from ours) = grind (arith, common_steps) in
    record {
      in_order = subst IsInOrder (sym all) (in_order-part ours c.args.from c.args.len c.args.self.now.in_order);
      filled = c.loop-run.invariant.filled;
      counted = sym (length-part ours c.args.from c.args.len c.requires) ∙ ap length (sym all);
      of_known_group = subst (IsKnownGroup c.args.self.now.known_group) (sym all) (known_group-part c.args.self.now.known_group ours c.args.from c.args.len c.args.self.now.of_known_group);
    }
