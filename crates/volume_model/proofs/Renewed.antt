-- What a member held when it made its copies: of those that it has not told yet, what it holds now
use Rattle.std.proofs.Common.{◌≡◌, ℕ, suc, ◌≤◌, nat_le, List, [], ◌∷◌, if◌then◌else◌, refl, subst, inl, inr, arith}
use Rattle.std.proofs.lemmas.Bool.{lt-leb, le-leb}
use Rattle.volume_model.specs.Common.{IsIn, Contents, Piece, Plan, Message, View, StepTo, Fence, Report, CopyAsk, CopyReport, PageAsk, Page, World}
use Rattle.volume_model.specs.Node.{Node}
use Rattle.volume_model.proofs.Invariant.{Held, IsMade, IsSource, IsSourced, MessageSourced, IsHistory}
use Rattle.volume_model.proofs.Kept.{Retains, NodeKept, IsCopied, MessageKept, IsKept}
use Rattle.std.proofs.lemmas.Grind.{common_steps}

-- the copies that were made, and what each member holds now as its next ones
abbrev pub renewed : Held → World → Held
renewed held world group x s = if nat_le s (world.nodes group x).copied then held group x s else (world.nodes group x).contents

-- what each member holds now is what it will have held when it makes its next copy
abbrev pub IsReady : Held → World → Type 0
IsReady held world = (group x : ℕ) → held group x (suc (world.nodes group x).copied) ≡ (world.nodes group x).contents

-- a world that is kept
pub record IsKeptWorld (plan : Plan) (world : World) : Type 0 where
  pub held : Held
  pub kept : IsKept plan held world

pub renewed_ready : (held : Held) (world : World) → IsReady (renewed held world) world
renewed_ready held world group x = rw (lt-leb (suc (world.nodes group x).copied) (world.nodes group x).copied (omega arith)) refl

module _ (plan : Plan) {held : Held} (world : World) (kept : IsKept plan held world) where
  result_same : (group x s : ℕ) → s ≤ (world.nodes group x).copied → held group x s ≡ renewed held world group x s
  result_same group x s l = rw (le-leb s (world.nodes group x).copied l) refl

  made_same : (group f x s : ℕ) (p : Piece) (c : Contents) → IsMade world (CopyReport group f x s p c) → held group x s ≡ renewed held world group x s
  made_same group f x s p c i = let k : IsCopied held world group f x s p c = kept.messages _ i in result_same group x s k.number

  sourced_again : (older : List Message) → ((m : Message) → IsIn m older → IsMade world m) → (group x : ℕ) (q : Contents) → IsSourced plan held world older group x q → IsSourced plan (renewed held world) world older group x q
  sourced_again older within group x q (inl h) = inl h
  sourced_again older within group x q (inr h) = inr (record {
    at = h.at;
    positive = h.positive;
    there = h.there;
    member = h.member;
    readers = h.readers;
    reads = h.reads;
    source = λ y r. (let (s, p, c, i, k) = h.source y r in (s, p, c, i, subst (λ z. IsSource z q) (made_same group h.at y s p c (within _ i)) k));
  })

  message_again : (older : List Message) → ((m : Message) → IsIn m older → IsMade world m) → (m : Message) → IsMade world m → MessageSourced plan held world older m → MessageSourced plan (renewed held world) world older m
  message_again older within (Report group l x q) i h = sourced_again older within group x q h
  message_again older within (CopyReport group f x s p c) i h = grind (arith, common_steps, (renewed held world), (made_same group f x s p c i), (sourced_again older within group x (held group x s) h))
  message_again older within m i h = tt

  history_again : (messages : List Message) → ((m : Message) → IsIn m messages → IsMade world m) → IsHistory plan held world messages → IsHistory plan (renewed held world) world messages
  history_again [] within h = tt
  history_again (m ∷ older) within h = (message_again older (λ k i. within k (inr i)) m (within m (inl refl)) h.0, history_again older (λ k i. within k (inr i)) h.1)

  node_again : (group x : ℕ) (node : Node) → NodeKept plan held world group x node → NodeKept plan (renewed held world) world group x node
  node_again group x node h = grind (arith, common_steps, sourced_again)

  kept_again : (m : Message) → IsMade world m → MessageKept plan held world m → MessageKept plan (renewed held world) world m
  kept_again (View v places) i h = h
  kept_again (StepTo group place) i h = h
  kept_again (Fence group l) i h = tt
  kept_again (CopyAsk group f) i h = tt
  kept_again (CopyReport group f x s p c) i h = grind (arith, common_steps)
  kept_again (PageAsk group l block point) i h = tt
  kept_again (Page group l x block point bytes) i h = h
  kept_again m i h = h

  -- so a kept world stays so with what its members hold now as their next copies
  pub renewed_kept : IsKept plan (renewed held world) world
  renewed_kept = record {
    authority = kept.authority;
    nodes = λ group x there. node_again group x (world.nodes group x) (kept.nodes group x there);
    clients = kept.clients;
    messages = λ m i. kept_again m i (kept.messages m i);
    views_ordered = kept.views_ordered;
    acks_copies = λ group v a x m f s p c i j h. subst (λ z. Retains world group v m z) (made_same group f x s p c j) (kept.acks_copies group v a x m f s p c i j h);
    acks_reports = kept.acks_reports;
    history = history_again world.messages (λ m i. i) kept.history;
  }
