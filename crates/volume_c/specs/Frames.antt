-- Frames: messages for one node in one buffer, each after its length. A segment takes them in order.
use Rattle.std.specs.Prelude.{◌≡◌, ◌<◌, ◌≤◌, ℕ, nat_lt, List, [], ◌∷◌, ◌++◌, length, take, drop, Option, Some, Ok}
use Rattle.std.specs.Int.{w32, to_be_bytes}
use Rattle.volume_model.specs.Common.{◌>>=◌, refuse_if, Plan, Message, NodeStep, NodeAnswer, reaction}
use Rattle.volume_model.specs.declared.fault.Fault.TheVariants.{Short}
use Rattle.message_bytes.specs.Numbers.{number_at}
use Rattle.message_bytes.specs.Contents.{Read}
use Rattle.message_bytes.specs.Reading.{message_in}
use Rattle.message_bytes.specs.Spelling.{message_spelled}
use Rattle.volume_c.specs.declared.actor.Held.{Held}
use Rattle.volume_c.specs.View.{seen, unsent}
use Rattle.volume_c.specs.Calls.{node_does, with_value, Refuses, Step}
use Rattle.volume_c.specs.Joined.{from_node, in_turn, one_turn}

-- a message after its length
abbrev pub framed : Message → List ℕ
framed m = to_be_bytes w32 (length (message_spelled m)) ++ message_spelled m

-- the bytes of a frame
abbrev pub frame_spelled : List Message → List ℕ
frame_spelled [] = []
frame_spelled (m ∷ rest) = framed m ++ frame_spelled rest

-- the first message of a frame and the bytes after it, or the first fault
unfoldable pub next_in : List ℕ → Read Message
next_in bytes = do
  n ← number_at w32 bytes
  refuse_if (nat_lt (length n.1) n.0) Short (message_in (take n.0 n.1) >>= λ m. Ok (m, drop n.0 n.1))

-- The bytes are messages that took a node from one step to another, in order, and then the rest.
pub record TookFront (plan : Plan) (group member : ℕ) (bytes rest : List ℕ) (before after : NodeStep) : Type 0 where
  pub messages : List Message
  pub spelled : bytes ≡ frame_spelled messages ++ rest
  pub turns : in_turn plan group member before messages ≡ Ok after

-- the node's turn with the first message of the bytes
abbrev pub next_step : Plan → ℕ → ℕ → NodeStep → List ℕ → NodeAnswer
next_step plan group member before bytes = next_in bytes >>= λ x. one_turn plan group member before x.0

-- what the node does with the first message of the bytes
abbrev pub next_does : List ℕ → Option Held → Step
next_does bytes held = with_value (next_in bytes) (λ x. node_does (λ plan group member node. reaction plan group member
    node x.0) (seen held))

-- A call that takes the messages of a frame in order, up to the first that is refused. A status below 90: the first
-- `taken` bytes are the messages that were taken. If it is 0, these are all; else it is the number of the next
-- message's refusal. A status of 90 or more: nothing has changed.
pub record TakesFrame (bytes : List ℕ) (taken status : ℕ) (old new : Option Held) : Type 0 where
  pub within : taken ≤ length bytes
  pub messages : List Message
  pub spelled : take taken bytes ≡ frame_spelled messages
  pub does : status < 90 → (node_does (λ plan group member node. in_turn plan group member (from_node node) messages)
      (seen old) ≡ Some (Ok (unsent new, seen new))) × (unsent old ≡ [])
  pub all : status ≡ 0 → taken ≡ length bytes
  pub refused : Refuses (next_does (drop taken bytes) new) status
  pub unchanged : 90 ≤ status → (taken ≡ 0) × (seen new ≡ seen old) × (unsent new ≡ unsent old)
