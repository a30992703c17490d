use Rattle.std.proofs.Common.{◌≡◌, ◌-◌, ◌<◌, ℕ, List, [], length, get_or, sym, ap, ◌∙◌, arith}
use Rattle.std.proofs.lemmas.List.{length-map}
use Rattle.redo_record.specs.declared.run.Run.{Run}
use Rattle.redo_record.specs.Run.{run_records, runs_in}
use Rattle.redo_record.specs.RecordSet.{records_of}
use Rattle.redo_record.proofs.Edits.{run-read}
use Rattle.redo_record.proofs.Flat.{at}
use Rattle.redo_record.proofs.RunLists.{last-place, last-read, no-runs}
use Rattle.redo_record.proofs.record_set.RecordSet.last.Goals as goal

pub returns-then-count-eq0 : goal.returns-then-count-eq0
returns-then-count-eq0 c = no-runs c.args.self.now.runs.items (omega arith)

pub returns : goal.returns
returns c =
    let runs : List Run = c.args.self.now.runs.items in
    let k : ℕ = c.len-count.result - 1 in
    let run : Run = c.index.result.now in
    let n : length (runs_in runs) ≡ length runs = length-map runs run_records in
    let below : k < length (runs_in runs) = omega (arith, c.if-count-eq0.false) in
    let read : get_or (runs_in runs) k [] ≡ run_records run = run-read runs k run below c.index.ensures in
    let last : c.len-index.result ≡ length (get_or (runs_in runs) k []) = c.len-index.ensures ∙ ap length (sym read) in
    last-read c.get.result (records_of c.args.self.now) (at (runs_in runs) k (c.len-index.result - 1)) c.get.ensures (last-place (runs_in runs) k (c.len-index.result - 1) (omega (arith, c.if-count-eq0.false)) (omega arith))
