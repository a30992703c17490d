use Rattle.std.proofs.Common.{◌<◌, ◌≤◌, length, map, take}
use Rattle.volume_model.specs.Common.{added}
use Rattle.redo_record.specs.Common.{shared_redo}
use Rattle.writer_core.specs.LastLsns.{AreLasts}
use Rattle.writer_core.specs.Log.{packets_in}
use Rattle.writer_core.specs.Logs.{log_of}
use Rattle.writer_core.proofs.last_lsns.LastLsns.read_older.Given as goal

abbrev pub invariant-loop-left : goal.invariant-loop-left
invariant-loop-left l = record {
  few : l.left ≤ length l.packets;
  within : l.self.unread ≤ length (packets_in l.log);
  fewer : l.self.unread < l.fn.self.unread;
  lasts : AreLasts l.self (log_of (packets_in l.log)) (added (map shared_redo (take l.left l.packets)) (log_of (take l.self.unread (packets_in l.log))));
}

abbrev pub decreases-loop-left : goal.decreases-loop-left
decreases-loop-left l = l.left
