-- A segment's turns, with its answers that weren't taken.
use Rattle.std.specs.Prelude.{◌≡◌, ℕ, List}
use Rattle.volume_model.specs.Common.{Fails, number_of, NodeStep, NodeAnswer}
use Rattle.volume_model.specs.declared.fault.Fault.{Fault}
use Rattle.volume_model.specs.Message as model
use Rattle.wire.specs.declared.message.Message.{Message}
use Rattle.wire.specs.Common.{messages_of}
use Rattle.segment_core.specs.declared.segment.Segment.{Segment}
use Rattle.segment_core.specs.Segment.{node_of, segment_plan, segment_group, segment_member}
use Rattle.volume_c.specs.Frames.{next_step, TookFront}
use Rattle.volume_c.specs.Joined.{one_turn}

-- the answers of a segment, and its node
abbrev pub turn_of : List Message → Segment → NodeStep
turn_of waiting s = record { made = messages_of waiting; node = node_of s }

-- a segment has answered the same as before, and its node is the same
abbrev pub IsSameTurn : List Message → Segment → List Message → Segment → Type 0
IsSameTurn before old after new = turn_of after new ≡ turn_of before old

-- the turn of this segment's node
abbrev pub own_turn : Segment → NodeStep → model.Message → NodeAnswer
own_turn s before m = one_turn (segment_plan s) (segment_group s) (segment_member s) before m

-- its turn with the first message of the bytes
abbrev pub own_next : Segment → NodeStep → List ℕ → NodeAnswer
own_next s before bytes = next_step (segment_plan s) (segment_group s) (segment_member s) before bytes

-- its turns with the messages before the rest
abbrev pub TookOwn : Segment → List ℕ → List ℕ → NodeStep → NodeStep → Type 0
TookOwn s bytes rest before after = TookFront (segment_plan s) (segment_group s) (segment_member s) bytes rest before after

-- the status is the number of this refusal
abbrev pub IsNextRefusal : ℕ → NodeAnswer → Type 0
IsNextRefusal status defined = (fault : Fault) × (status ≡ number_of fault) × Fails fault defined
