use Rattle.std.proofs.Common.{◌<◌, map}
use Rattle.redo_record.specs.Common.{shared_redo}
use Rattle.lineage.proofs.LiveRecords.{AreOfEpoch}
use Rattle.lineage.proofs.live.epoch_start.Given as goal

abbrev pub invariant-loop-start : goal.invariant-loop-start
invariant-loop-start l = record {
  before : l.start < l.left;
  alike : AreOfEpoch l.volume_epoch l.start l.left (map shared_redo l.packets);
}

abbrev pub decreases-loop-start : goal.decreases-loop-start
decreases-loop-start l = l.start
