use Rattle.std.proofs.Common.{◌≡◌, ◌-◌, ◌<◌, ◌≤◌, drop}
use Rattle.redo_record.specs.Common.{joined, runs_in}
use Rattle.writer_core.proofs.lookup.run_before.Given as goal

abbrev pub invariant-loop-run : goal.invariant-loop-run
invariant-loop-run l = record {
  rest : drop (l.place - l.left) (joined (runs_in l.runs)) ≡ joined (runs_in (drop l.run-index l.runs));
  few : l.left ≤ l.place;
  some : 0 < l.place → 0 < l.left;
}
