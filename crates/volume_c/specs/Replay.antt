-- Laws of the messages that a node logs, and of dropped answers.
use Rattle.std.specs.Prelude.{◌≡◌, ◌≤◌, ℕ, List, [], ◌∷◌, ◌++◌, Result, Ok, Err}
use Rattle.volume_model.specs.Common.{◌>>=◌, Plan, Label, Message, Ack, NodeStep, NodeAnswer, reaction, ClientAnswer, taken}
use Rattle.volume_model.specs.declared.fault.Fault.{Fault}
use Rattle.volume_model.specs.Node.{Node}
use Rattle.volume_model.specs.Client.{Client}
use Rattle.segment_core.specs.Snapshot.{resumed}
use Rattle.volume_c.specs.Saved.{segment_in}
use Rattle.volume_c.specs.Joined.{from_node, in_turn, joined}

-- the node after a step; unchanged after a refusal
abbrev pub node_or : Node → NodeAnswer → Node
node_or node (Ok step) = step.node
node_or node (Err fault) = node

-- a node after messages came in order, of which it took some
abbrev pub node_after : Plan → ℕ → ℕ → Node → List Message → Node
node_after plan group member node [] = node
node_after plan group member node (m ∷ ms) = node_after plan group member
    (node_or node (reaction plan group member node m)) ms

-- the message before the others, if it was taken
abbrev pub with_taken : Message → NodeAnswer → List Message → List Message
with_taken m (Ok step) rest = m ∷ rest
with_taken m (Err fault) rest = rest

-- the messages that were taken, of those that came in order
abbrev pub logged : Plan → ℕ → ℕ → Node → List Message → List Message
logged plan group member node [] = []
logged plan group member node (m ∷ ms) = with_taken m (reaction plan group member node m)
    (logged plan group member (node_or node (reaction plan group member node m)) ms)

-- a node that takes all these messages in order, or the first refusal
abbrev pub replayed : Plan → ℕ → ℕ → Node → List Message → Result Node Fault
replayed plan group member node [] = Ok node
replayed plan group member node (m ∷ ms) = reaction plan group member node m >>= λ step. replayed plan group member
    step.node ms

-- the answers of a step, and those that come after them; none after a refusal
abbrev pub answers_and : NodeAnswer → (NodeStep → List Message) → List Message
answers_and (Ok step) rest = step.made ++ rest step
answers_and (Err fault) rest = []

-- the node's answers to messages that it takes in order
abbrev pub answers_in_turn : Plan → ℕ → ℕ → Node → List Message → List Message
answers_in_turn plan group member node [] = []
answers_in_turn plan group member node (m ∷ ms) = answers_and (reaction plan group member node m)
    (λ step. answers_in_turn plan group member step.node ms)

-- Whatever messages come to a node after a snapshot: the node that is resumed from the snapshot takes each message that
-- was logged since, and reaches the same state. The messages of a frame are taken like single ones.
pub record ReplayReaches : Type 0 where
  pub from_node : (plan : Plan) (group member : ℕ) (node : Node) (came : List Message)
      → replayed plan group member node (logged plan group member node came) ≡ Ok (node_after plan group member node came)
  pub from_snapshot : (plan : Plan) (group member : ℕ) (bytes : List ℕ) (node : Node) (came : List Message)
      → segment_in bytes ≡ Ok node → resumed plan group member node ≡ Ok node
      → (segment_in bytes >>= λ saved. resumed plan group member saved >>= λ own. replayed plan group member own
      (logged plan group member node came)) ≡ Ok (node_after plan group member node came)
  pub from_frames : (plan : Plan) (group member : ℕ) (before after : NodeStep) (ms : List Message)
      → in_turn plan group member before ms ≡ Ok after → replayed plan group member before.node ms ≡ Ok after.node

-- the client after a step; unchanged after a refusal
abbrev pub client_or : Client → ClientAnswer → Client
client_or client (Ok step) = step.client
client_or client (Err fault) = client

-- a client after messages came in order, of which it took some
abbrev pub client_after : Plan → ℕ → Client → List Message → Client
client_after plan volume client [] = client
client_after plan volume client (m ∷ ms) = client_after plan volume (client_or client (taken plan volume client m)) ms

-- The last of several acknowledgements of one segment with one label has the same effect on a client as all of them, if
-- no earlier one has a greater complete point. So answers of which some were dropped have the same effect as all, and
-- so do those of a frame.
pub record LastAckSuffices : Type 0 where
  pub last : (plan : Plan) (volume : ℕ) (client : Client) (group : ℕ) (label : Label) (from lower upper : ℕ)
      → lower ≤ upper
      → client_after plan volume client (Ack group label from lower ∷ Ack group label from upper ∷ [])
      ≡ client_after plan volume client (Ack group label from upper ∷ [])
  pub joined_answers : (plan : Plan) (volume : ℕ) (client : Client) (waiting answers : List Message)
      → client_after plan volume client (joined waiting answers) ≡ client_after plan volume client (waiting ++ answers)
  pub frames : (plan : Plan) (group member : ℕ) (node : Node) (ms : List Message) (after : NodeStep)
      → in_turn plan group member (from_node node) ms ≡ Ok after → (volume : ℕ) (client : Client)
      → client_after plan volume client after.made ≡ client_after plan volume client
      (answers_in_turn plan group member node ms)
