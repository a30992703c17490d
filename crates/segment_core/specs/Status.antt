-- What a segment says of itself.
use Rattle.std.specs.Prelude.{length}
use Rattle.volume_model.specs.Node.{Node}
use Rattle.volume_model.specs.Common.{scl}
use Rattle.segment_core.specs.declared.status.SegmentStatus.{SegmentStatus}

-- the epochs, the configuration, whether it is whole, the complete point and the number of records of a node
abbrev pub status_of : Node → SegmentStatus
status_of node = record {
  volume_epoch = node.volume;
  membership_epoch = node.place.epoch;
  configuration = node.place.configuration;
  is_whole = node.whole;
  complete_point = scl node.contents.records;
  records = length node.contents.records;
}
