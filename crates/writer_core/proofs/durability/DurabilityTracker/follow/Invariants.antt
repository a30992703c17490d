use Rattle.std.proofs.Common.{◌≡◌, drop, length}
use Rattle.volume_model.specs.Common.{group_point_of}
use Rattle.writer_core.specs.Groups.{groups_in}
use Rattle.writer_core.specs.DurabilityTracker.{CoversPrefix}
use Rattle.writer_core.specs.Log.{log_left, packets_in}
use Rattle.writer_core.proofs.durability.DurabilityTracker.follow.Given as goal

abbrev pub invariant-loop-packet : goal.invariant-loop-packet
invariant-loop-packet l = record {
  covers : CoversPrefix l.self (group_point_of (groups_in l.group_states)) (packets_in l.log);
  rest : log_left l.left ≡ drop l.self.records (packets_in l.log);
}

abbrev pub decreases-loop-packet : goal.decreases-loop-packet
decreases-loop-packet l = length (log_left l.left)
