-- The results of a segment's calls.
use Rattle.std.specs.Prelude.{◌≡◌, ℕ, List, [], length, Result, Ok, Err}
use Rattle.volume_model.specs.declared.fault.Fault.{Fault}
use Rattle.volume_model.specs.Common.{Plan, scl, NodeAnswer, restarted}
use Rattle.volume_model.specs.Message as model
use Rattle.volume_model.specs.Node.{Node}
use Rattle.segment_core.specs.Segment.{born, paged}
use Rattle.segment_core.specs.Snapshot.{resumed}
use Rattle.volume_c.specs.View.{View, Nothing, APlan, ANode, AClient, AnAuthority, ASnapshot}
use Rattle.volume_c.specs.Calls.{Step, Value, of_plan, of_node, with_value}
use Rattle.volume_c.specs.Saved.{flag_spelled, segment_in, segment_spelled}
use Rattle.volume_c.specs.declared.segment_calls.VolumeSegmentState.{VolumeSegmentState}

-- the step that makes a node: it makes no message
abbrev pub node_made : Plan → ℕ → ℕ → Result Node Fault → Result (List model.Message × View) Fault
node_made plan group member (Err fault) = Err fault
node_made plan group member (Ok node) = Ok ([], ANode plan group member node)

-- the node of a member of a group at the volume's birth
abbrev pub born_step : ℕ → ℕ → View → Step
born_step group member = of_plan (λ plan. node_made plan group member (born plan group member))

-- the node of a snapshot's bytes
abbrev pub resumed_step : List ℕ → ℕ → ℕ → View → Step
resumed_step bytes group member view = with_value (segment_in bytes)
    (λ node. of_plan (λ plan. node_made plan group member (resumed plan group member node)) view)

-- a page at a point
abbrev pub page_value : ℕ → ℕ → View → Value (List ℕ)
page_value block point = of_node (λ plan group member node. paged plan group member node block point)

-- the segment complete point
abbrev pub scl_value : View → Value ℕ
scl_value = of_node (λ plan group member node. Ok (scl node.contents.records))

-- the complete point, the number of records, the promised volume epoch, the membership epoch and the configuration of
-- the last membership step, and 1 for a whole segment
abbrev pub State : Type 0
State = ℕ × ℕ × ℕ × ℕ × ℕ × ℕ

abbrev pub state_of : VolumeSegmentState → State
state_of s = (s.complete_point, s.records, s.volume_epoch, s.membership_epoch, s.configuration, s.is_whole)

abbrev pub node_state : Node → State
node_state node = (
  scl node.contents.records,
  length node.contents.records,
  node.volume,
  node.place.epoch,
  node.place.configuration,
  flag_spelled node.whole,
)

abbrev pub state_value : View → Value State
state_value = of_node (λ plan group member node. Ok (node_state node))

-- a node that drops its pieces, as at a restart
abbrev pub dropped : Plan → ℕ → ℕ → Node → NodeAnswer
dropped plan group member node = Ok (record { made = []; node = restarted node })

-- the bytes of the snapshot of a node that drops its pieces
abbrev pub snapshot_step : View → Step
snapshot_step = of_node (λ plan group member node. Ok ([], ASnapshot (segment_spelled (restarted node))))

-- the bytes of a snapshot that were not handed out
abbrev pub saved_in : View → List ℕ
saved_in Nothing = []
saved_in (APlan plan) = []
saved_in (ANode plan group member node) = []
saved_in (AClient plan volume client) = []
saved_in (AnAuthority plan authority) = []
saved_in (ASnapshot bytes) = bytes

-- the bytes are those of the node that is held, and are read back as it
abbrev pub IsSaved : List ℕ → View → Type 0
IsSaved bytes Nothing = ⊥
IsSaved bytes (APlan plan) = ⊥
IsSaved bytes (ANode plan group member node) = (bytes ≡ segment_spelled node) × (segment_in bytes ≡ Ok node)
IsSaved bytes (AClient plan volume client) = ⊥
IsSaved bytes (AnAuthority plan authority) = ⊥
IsSaved bytes (ASnapshot own) = ⊥
