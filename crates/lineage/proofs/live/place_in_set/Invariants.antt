use Rattle.std.proofs.Common.{◌≡◌, ◌≤◌, length, take}
use Rattle.redo_record.specs.Common.{joined, runs_in}
use Rattle.lineage.specs.Lineage.{lineage_of}
use Rattle.lineage.specs.Live.{Parts}
use Rattle.lineage.specs.Walk.{Walks}
use Rattle.lineage.proofs.live.place_in_set.Given as goal

abbrev pub invariant-loop-index : goal.invariant-loop-index
invariant-loop-index l = record {
  parts : Parts (lineage_of l.lineage) l.before l.place (joined (runs_in l.runs));
  at : l.before ≡ length (joined (runs_in (take l.index l.runs)));
  index : l.index ≤ length l.runs;
  walks : Walks (lineage_of l.lineage) l.walk;
}

abbrev pub decreases-loop-index : goal.decreases-loop-index
decreases-loop-index l = l.index
