-- A log is replayed.
use Rattle.std.proofs.Common.{◌≡◌, ℕ, List, [], ◌∷◌, Result, Ok, Err, refl, ap, ◌∙◌}
use Rattle.volume_model.specs.Common.{◌>>=◌, Plan, Message, NodeStep, NodeAnswer, reaction}
use Rattle.volume_model.specs.declared.fault.Fault.{Fault}
use Rattle.volume_model.specs.Node.{Node}
use Rattle.segment_core.specs.Snapshot.{resumed}
use Rattle.volume_c.specs.Joined.{in_turn, joined}
use Rattle.volume_c.specs.Replay.{logged, node_after, node_or, replayed, with_taken, ReplayReaches}

abbrev turn_done : NodeStep → NodeAnswer
turn_done step = Ok step

turn-is : (a b : NodeStep) → turn_done a ≡ turn_done b → a ≡ b
turn-is a b e = cc

abbrev own : Node → Result Node Fault
own node = Ok node

module _ (plan : Plan) (group member : ℕ) where
  abbrev Replays : Node → List Message → Type 0
  Replays node came = replayed plan group member node (logged plan group member node came) ≡ Ok (node_after plan group member node came)

  replays-one : (node : Node) (m : Message) (ms : List Message) → ((next : Node) → Replays next ms) → (r : NodeAnswer) → reaction plan group member node m ≡ r
      → replayed plan group member node (with_taken m r (logged plan group member (node_or node r) ms)) ≡ Ok (node_after plan group member (node_or node r) ms)
  replays-one node m ms later (Ok step) is =
      ap (λ (r : NodeAnswer). r >>= λ (s : NodeStep). replayed plan group member s.node (logged plan group member step.node ms)) is ∙ later step.node
  replays-one node m ms later (Err fault) is = later node

  replays : (came : List Message) (node : Node) → Replays node came
  replays [] node = refl
  replays (m ∷ ms) node = replays-one node m ms (replays ms) (reaction plan group member node m) refl

  abbrev FrameReplays : NodeStep → NodeStep → List Message → Type 0
  FrameReplays before after ms = in_turn plan group member before ms ≡ Ok after → replayed plan group member before.node ms ≡ Ok after.node

  frame-replays-one : (before after : NodeStep) (ms : List Message) → ((next : NodeStep) → FrameReplays next after ms) → (r : NodeAnswer)
      → ((r >>= λ step. Ok (record { made = joined before.made step.made; node = step.node })) >>= λ step. in_turn plan group member step ms) ≡ Ok after
      → (r >>= λ (step : NodeStep). replayed plan group member step.node ms) ≡ Ok after.node
  frame-replays-one before after ms later (Err fault) e = absurd cc
  frame-replays-one before after ms later (Ok step) e = later (record { made = joined before.made step.made; node = step.node }) e

  frame-replays : (ms : List Message) (after before : NodeStep) → FrameReplays before after ms
  frame-replays [] after before e = ap (λ (s : NodeStep). own s.node) (turn-is before after e)
  frame-replays (m ∷ ms) after before e = frame-replays-one before after ms (frame-replays ms after) (reaction plan group member before.node m) e

pub replays_reach : ReplayReaches
replays_reach = record {
  from_node = λ plan group member node came. replays plan group member came node;
  from_snapshot = λ plan group member bytes node came saved resumes.
      ap (λ (r : Result Node Fault). r >>= λ (n : Node). resumed plan group member n >>= λ (own : Node). replayed plan group member own (logged plan group member node came)) saved
      ∙ ap (λ (r : Result Node Fault). r >>= λ (own : Node). replayed plan group member own (logged plan group member node came)) resumes
      ∙ replays plan group member came node;
  from_frames = λ plan group member before after ms e. frame-replays plan group member ms after before e;
}
