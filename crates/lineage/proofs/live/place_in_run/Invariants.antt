use Rattle.std.proofs.Common.{◌≤◌, length, map}
use Rattle.redo_record.specs.Common.{shared_redo}
use Rattle.lineage.specs.Lineage.{lineage_of}
use Rattle.lineage.specs.Live.{Parts}
use Rattle.lineage.specs.Walk.{Walks}
use Rattle.lineage.proofs.live.place_in_run.Given as goal

abbrev pub invariant-loop-left : goal.invariant-loop-left
invariant-loop-left l = record {
  parts : Parts (lineage_of l.lineage) l.left l.place (map shared_redo l.packets);
  left : l.left ≤ length l.packets;
  walks : Walks (lineage_of l.lineage) l.walk;
}

abbrev pub decreases-loop-left : goal.decreases-loop-left
decreases-loop-left l = l.left
