use Rattle.std.proofs.Common.{◌≡◌, ◌≤◌, length, drop}
use Rattle.volume_model.specs.Common.{newest_with}
use Rattle.lineage.specs.Lineage.{lineage_of}
use Rattle.hydration.specs.KeptCopies.{contents_kept}
use Rattle.hydration.proofs.brought.newest_of.Given as goal

abbrev pub invariant-loop-left : goal.invariant-loop-left
invariant-loop-left l = record {
  within : l.left ≤ length l.kept;
  newest : lineage_of l.newest ≡ newest_with (lineage_of l.last) (contents_kept (drop l.left l.kept));
}

abbrev pub decreases-loop-left : goal.decreases-loop-left
decreases-loop-left l = l.left
