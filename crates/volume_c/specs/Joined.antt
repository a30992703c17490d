-- Messages that a node takes in order, and answers of which one is dropped if the next includes it.
use Rattle.std.specs.Prelude.{ℕ, Bool, false, ◌&&◌, ◌==◌, nat_le, if◌then◌else◌, List, [], ◌∷◌, Ok}
use Rattle.volume_model.specs.Common.{◌>>=◌, Plan, Label, Message, View, StepTo, Fence, Report, Install, Write, Gossip, Ack, CopyAsk, CopyReport, PageAsk, Page, NodeStep, NodeAnswer, reaction}
use Rattle.volume_model.specs.Node.{Node}

-- the message is an acknowledgement of the same segment with the same label, and its complete point is at most this one
abbrev pub is_covered : ℕ → Label → ℕ → ℕ → Message → Bool
is_covered group label from scl (View volume places) = false
is_covered group label from scl (StepTo to place) = false
is_covered group label from scl (Fence to of) = false
is_covered group label from scl (Report to of sender contents) = false
is_covered group label from scl (Install to of piece contents) = false
is_covered group label from scl (Write to of r) = false
is_covered group label from scl (Gossip to of r) = false
is_covered group label from scl (Ack to of sender reached) = to == group && (of.volume == label.volume &&
    (of.member == label.member && (sender == from && nat_le reached scl)))
is_covered group label from scl (CopyAsk to epoch) = false
is_covered group label from scl (CopyReport to epoch sender series piece contents) = false
is_covered group label from scl (PageAsk to of block point) = false
is_covered group label from scl (Page to of sender block point bytes) = false

-- the first message is an acknowledgement that includes the other
abbrev pub covers : Message → Message → Bool
covers (View volume places) m = false
covers (StepTo to place) m = false
covers (Fence to of) m = false
covers (Report to of sender contents) m = false
covers (Install to of piece contents) m = false
covers (Write to of r) m = false
covers (Gossip to of r) m = false
covers (Ack group label from scl) m = is_covered group label from scl m
covers (CopyAsk to epoch) m = false
covers (CopyReport to epoch sender series piece contents) m = false
covers (PageAsk to of block point) m = false
covers (Page to of sender block point bytes) m = false

-- answers appended to those that wait; the last of these is dropped if the first new answer includes it
abbrev pub joined : List Message → List Message → List Message
joined waiting [] = waiting
joined [] (m ∷ ms) = m ∷ ms
joined (x ∷ []) (m ∷ ms) = if covers m x then m ∷ ms else x ∷ m ∷ ms
joined (x ∷ y ∷ rest) (m ∷ ms) = x ∷ joined (y ∷ rest) (m ∷ ms)

-- a node takes a message; its answers are added to those before
abbrev pub one_turn : Plan → ℕ → ℕ → NodeStep → Message → NodeAnswer
one_turn plan group member before m = reaction plan group member before.node m >>= λ step. Ok (record {
  made = joined before.made step.made;
  node = step.node;
})

-- a node takes messages in order
abbrev pub in_turn : Plan → ℕ → ℕ → NodeStep → List Message → NodeAnswer
in_turn plan group member before [] = Ok before
in_turn plan group member before (m ∷ ms) = one_turn plan group member before m >>= λ step. in_turn plan group member
    step ms

-- a node that has answered nothing yet
abbrev pub from_node : Node → NodeStep
from_node node = record { made = []; node = node }
