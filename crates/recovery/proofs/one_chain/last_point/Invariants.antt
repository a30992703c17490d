use Rattle.std.proofs.Common.{◌≡◌, ◌≤◌, [], length, take}
use Rattle.volume_model.specs.Common.{added}
use Rattle.redo_record.specs.Common.{joined, runs_in}
use Rattle.writer_core.specs.Logs.{log_of_set}
use Rattle.recovery.specs.Chains.{up_to_point}
use Rattle.recovery.proofs.one_chain.last_point.Given as goal

abbrev pub invariant-loop-place : goal.invariant-loop-place
invariant-loop-place l = record {
  within : l.place ≤ length l.runs;
  counted : l.count ≡ length (joined (runs_in (take l.place l.runs)));
  same : up_to_point (log_of_set l.set) ≡ up_to_point (added (joined (runs_in (take l.place l.runs))) []);
}

abbrev pub decreases-loop-place : goal.decreases-loop-place
decreases-loop-place l = l.place
