use Rattle.std.proofs.Common.{◌≡◌, ◌≤◌, List, length, map, take}
use Rattle.volume_model.specs.Common.{added, Redo}
use Rattle.redo_record.specs.Common.{shared_redo}
use Rattle.recovery.specs.Chains.{up_to_point}
use Rattle.recovery.proofs.one_chain.count_to_point.Given as goal

abbrev pub invariant-loop-count : goal.invariant-loop-count
invariant-loop-count l = record {
  within : l.count ≤ length l.packets;
  same : (older : List Redo) → up_to_point (added (map shared_redo l.packets) older) ≡ up_to_point (added (take l.count (map shared_redo l.packets)) older);
}

abbrev pub decreases-loop-count : goal.decreases-loop-count
decreases-loop-count l = l.count
