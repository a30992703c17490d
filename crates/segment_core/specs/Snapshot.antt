-- The state of a segment that survives a restart.
use Rattle.std.specs.Prelude.{ℕ, not, [], None, Result, Ok}
use Rattle.std.specs.Arc.{arc_value}
use Rattle.volume_model.specs.Plan as model
use Rattle.volume_model.specs.Node.{Node}
use Rattle.volume_model.specs.Common.{refuse_if}
use Rattle.volume_model.specs.declared.fault.Fault.{Fault}
use Rattle.volume_model.specs.declared.fault.Fault.TheVariants.{NoActor}
use Rattle.wire.specs.Common.{contents_of, place_of}
use Rattle.segment_core.specs.declared.snapshot.SegmentSnapshot.{SegmentSnapshot}

-- the node of the model for a snapshot
abbrev pub node_in : SegmentSnapshot → Node
node_in s = record {
  volume = s.volume;
  place = place_of s.place;
  whole = s.whole;
  contents = contents_of (arc_value s.contents);
  copies = [];
  install = None;
  copied = s.copied;
}

-- resuming a snapshot: if the plan names the member, the saved node is restored
abbrev pub resumed : model.Plan → ℕ → ℕ → Node → Result Node Fault
resumed plan group member node = refuse_if (not (model.is_named plan group member)) NoActor (Ok node)
