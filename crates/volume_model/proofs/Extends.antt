-- A later world, and that every fact of the invariant stays true in it
use Rattle.std.proofs.Common.{◌≡◌, ℕ, ◌≤◌, true, List, [], ◌∷◌, sym, ap, ◌∙◌, subst, inl, inr, arith}
use Rattle.volume_model.specs.Common.{IsIn, Members, sat, Redo, cut_of, log_found, last_epoch, extended, Contents, Plan, Label, Place, Message, View, StepTo, Fence, Report, Install, Write, Gossip, Ack, CopyAsk, CopyReport, PageAsk, Page, senders, place_of, reports_of, group_point_of, to_install, World, groups_joined}
use Rattle.volume_model.specs.Lineage.{found_in}
use Rattle.volume_model.specs.Node.{Node}
use Rattle.volume_model.specs.Client.{Client}
use Rattle.volume_model.proofs.Pieces.{ArePieces-more}
use Rattle.volume_model.proofs.Invariant.{Held, epoch_now, path, config, log_of, found_of, lineage_of, HasCut, IsMade, WasAt, IsCopy, IsSource, IsSourced, MessageSourced, IsHistory}
use Rattle.volume_model.proofs.Kept.{IsPlace, Retains, NodeGrows, IsCopyOfPiece, IsInstallOfPiece, install_of, NodeKept, HasRead, reported_to, IsHeir, IsReached, ClientKept, IsWrite, MessageKept}
use Rattle.std.proofs.lemmas.Grind.{common_steps}

-- what was so in the one world is so in the other
pub record Extends (plan : Plan) (world later : World) : Type 0 where
  pub messages : (m : Message) → IsMade world m → IsMade later m
  pub last : world.authority.last_volume ≤ later.authority.last_volume
  pub joined : groups_joined world.authority ≤ groups_joined later.authority
  pub epoch : (group : ℕ) → epoch_now plan world group ≤ epoch_now plan later group
  pub path_same : (group e : ℕ) → 1 ≤ e → e ≤ epoch_now plan world group → path plan later group e ≡ path plan world group e
  pub cut : (v : ℕ) → HasCut world v → HasCut later v
  pub lineage : (v : ℕ) → HasCut world v → lineage_of later v ≡ lineage_of world v
  pub found : (v : ℕ) → HasCut world v → found_of later v ≡ found_of world v
  pub logs : (v : ℕ) → HasCut world v → (r : Redo) → IsIn r (log_of world v) → IsIn r (log_of later v)
  pub nodes : (group x : ℕ) → NodeGrows (world.nodes group x) (later.nodes group x)

pub NodeGrows-same : (node : Node) → NodeGrows node node
NodeGrows-same node = record { volume = omega arith; epoch = omega arith; whole = λ h. h; contents = λ h. record { epoch = omega arith; records = λ e r i. i }; copied = omega arith }

pub Retains-source : (world : World) (group v s : ℕ) (q q' : Contents) → IsSource q q' → Retains world group v s q → Retains world group v s q'
Retains-source world group v s q q' source retains =
    record {
      kept = retains.kept;
      complete = retains.complete;
      cut = retains.cut;
      stands = retains.stands;
      epoch = omega arith;
      records = λ e r i. (let p : last_epoch q.lineage ≡ v = omega arith in source.records (p ∙ sym e) r (retains.records p r i));
    }

module _ (plan : Plan) (world later : World) (extends : Extends plan world later) where
  pub WasAt-later : (v group e : ℕ) → WasAt plan world v group e → WasAt plan later v group e
  WasAt-later v group e (inl h) = inl h
  WasAt-later v group e (inr h) = inr (h.0, extends.messages _ h.1, h.2)

  pub IsPlace-later : (group : ℕ) (place : Place) → IsPlace plan world group place → IsPlace plan later group place
  IsPlace-later group place h = grind (arith, common_steps)

  pub IsCopy-later : (group : ℕ) (q : Contents) → IsCopy world group q → IsCopy later group q
  IsCopy-later group q h = record {
    cut = extends.cut _ h.cut;
    lineage = h.lineage ∙ sym (extends.lineage _ h.cut);
    records = λ r i. (extends.logs _ h.cut r (h.records r i).0, (h.records r i).1);
    found = λ r i g. h.found r (subst (λ z. IsIn r z) (extends.found _ h.cut) i) g;
  }

  pub sat_read-later : (group e : ℕ) (set : Members) → 1 ≤ e → e ≤ epoch_now plan world group → sat (config plan world group e).read set ≡ true → sat (config plan later group e).read set ≡ true
  sat_read-later group e set l h p = subst (λ c. sat (plan.configuration group c).read set ≡ true) (sym (extends.path_same group e l h)) p

  pub sat_write-later : (group e : ℕ) (set : Members) → 1 ≤ e → e ≤ epoch_now plan world group → sat (config plan world group e).write set ≡ true → sat (config plan later group e).write set ≡ true
  sat_write-later group e set l h p = subst (λ c. sat (plan.configuration group c).write set ≡ true) (sym (extends.path_same group e l h)) p

  epoch-later : (group e : ℕ) → e ≤ epoch_now plan world group → e ≤ epoch_now plan later group
  epoch-later group e h = let b : epoch_now plan world group ≤ epoch_now plan later group = extends.epoch group in omega arith

  pub Retains-later : (group v s : ℕ) (q : Contents) → Retains world group v s q → Retains later group v s q
  Retains-later group v s q h = record {
    kept = h.kept;
    complete = h.complete;
    cut = extends.cut v h.cut;
    stands = λ r i. (extends.logs v h.cut r (h.stands r i).0, (h.stands r i).1);
    epoch = h.epoch;
    records = h.records;
  }

  HasRead-later : (v : ℕ) (client : Client) (parent group : ℕ) → HasRead plan world v client parent group → HasRead plan later v client parent group
  HasRead-later v client parent group h = record {
    at = h.at;
    positive = h.positive;
    there = epoch-later group h.at h.there;
    was = WasAt-later v group h.at h.was;
    reads = sat_read-later group h.at (senders (reports_of client.groups group)) h.positive h.there h.reads;
    kept = λ from i. (extends.messages _ (h.kept from i).0, (h.kept from i).1);
  }

  IsHeir-later : (v : ℕ) (client : Client) → IsHeir plan world v client → IsHeir plan later v client
  IsHeir-later v client h =
      let same : lineage_of world h.parent ≡ lineage_of later h.parent = sym (extends.lineage h.parent h.parent_cut) in
      record {
        parent = h.parent;
        below = h.below;
        parent_cut = extends.cut h.parent h.parent_cut;
        lineage = h.lineage ∙ ap (λ z. extended z v (cut_of (found_in z (reported_to plan client))) plan.lal) same;
        found = h.found ∙ ap (λ z. log_found (found_in z (reported_to plan client))) same;
        reads = λ group there views. HasRead-later v client h.parent group (h.reads group there (λ q m. views q (extends.messages _ m)));
        event_result = λ group there from i. (let (at, m, l) = h.event_result group there from i in (at, extends.messages _ m, l));
      }

  IsReached-later : (v group n : ℕ) → IsReached plan world v group n → IsReached plan later v group n
  IsReached-later v group n h = record {
    at = h.at;
    positive = h.positive;
    there = epoch-later group h.at h.there;
    was = WasAt-later v group h.at h.was;
    writers = h.writers;
    writes = sat_write-later group h.at h.writers h.positive h.there h.writes;
    acked = λ x w. (let (a, s, p, q, m) = h.acked x w in (a, s, p, q, extends.messages _ m));
  }

  pub ClientKept-later : (v : ℕ) (client : Client) → ClientKept plan world v client → ClientKept plan later v client
  ClientKept-later v client h = record {
    born = λ b. record {
      positive = (h.born b).positive;
      known = (let k : v ≤ world.authority.last_volume = (h.born b).known in let l : world.authority.last_volume ≤ later.authority.last_volume = extends.last in omega arith);
      within = (h.born b).within;
      viewed = elim (h.born b).viewed [ inl c ↦ inl c | inr q ↦ inr (q.0, extends.messages _ q.1, q.2) ];
      places = λ group there. (IsPlace-later group (place_of client.groups group) ((h.born b).places group there).0, WasAt-later v group _ ((h.born b).places group there).1);
    };
    reading = λ n group there from i. (extends.messages _ (h.reading n group there from i).0, (h.reading n group there from i).1);
    cut = grind (arith, common_steps, IsHeir-later);
    unjoined = h.unjoined;
    counts = λ group there count i. (let (a, p, m) = h.counts group there count i in (a, p, extends.messages _ m));
    points = λ group there. elim (h.points group there) [ inl z ↦ inl z | inr r ↦ inr (IsReached-later v group (group_point_of client.groups group) r) ];
  }

  IsWrite-later : (group : ℕ) (l : Label) (r : Redo) → IsWrite world group l r → IsWrite later group l r
  IsWrite-later group l r h = record { cut = extends.cut _ h.cut; stands = extends.logs _ h.cut r h.stands; group_is = h.group_is }

module _ (plan : Plan) (held : Held) (world later : World) (extends : Extends plan world later) where
  pub IsSourced-later : (older older' : List Message) → ((m : Message) → IsIn m older → IsIn m older') → (group x : ℕ) (q : Contents) → IsSourced plan held world older group x q → IsSourced plan held later older' group x q
  IsSourced-later older older' more group x q (inl h) = inl h
  IsSourced-later older older' more group x q (inr h) = grind (arith, common_steps)

  pub MessageSourced-later : (older : List Message) (m : Message) → MessageSourced plan held world older m → MessageSourced plan held later older m
  MessageSourced-later older (Report group l x q) h = IsSourced-later older older (λ k i. i) group x q h
  MessageSourced-later older (CopyReport group f x s p c) h = IsSourced-later older older (λ k i. i) group x (held group x s) h
  MessageSourced-later older m h = tt

  pub IsHistory-later : (messages : List Message) → IsHistory plan held world messages → IsHistory plan held later messages
  IsHistory-later [] h = tt
  IsHistory-later (m ∷ older) h = (MessageSourced-later older m h.0, IsHistory-later older h.1)

  pub NodeKept-later : (group x : ℕ) (node : Node) → NodeKept plan held world group x node → NodeKept plan held later group x node
  NodeKept-later group x node h = record {
    place = elim h.place [ inl z ↦ inl z | inr p ↦ inr (IsPlace-later plan world later extends group node.place p) ];
    copies = λ copy i. ArePieces-more (IsCopyOfPiece world group node.place.epoch copy.sender) (IsCopyOfPiece later group node.place.epoch copy.sender) (λ s p c m. extends.messages _ m) copy.pieces (h.copies copy i);
    install = λ pieces e. ArePieces-more (IsInstallOfPiece world group) (IsInstallOfPiece later group) (λ s p c m. (m.0, extends.messages _ m.1)) pieces (h.install pieces e);
    whole = λ w. record {
      copy = IsCopy-later plan world later extends group node.contents (h.whole w).copy;
      below = (h.whole w).below;
      sourced = IsSourced-later world.messages later.messages extends.messages group x node.contents (h.whole w).sourced;
      ordered = (h.whole w).ordered;
    };
  }

  pub MessageKept-later : (m : Message) → MessageKept plan held world m → MessageKept plan held later m
  MessageKept-later (View v places) h = grind (arith, common_steps)
  MessageKept-later (StepTo group place) h = IsPlace-later plan world later extends group place h
  MessageKept-later (Fence group l) h = tt
  MessageKept-later (Report group l x q) h = (IsCopy-later plan world later extends group q h.0, (let a : l.volume ≤ (world.nodes group x).volume = h.1 in let b : (world.nodes group x).volume ≤ (later.nodes group x).volume = (extends.nodes group x).volume in omega arith))
  MessageKept-later (Install group l p c) h =
      let of_lineage : lineage_of world l.volume ≡ lineage_of later l.volume = sym (extends.lineage l.volume h.cut) in
      let of_found : found_of world l.volume ≡ found_of later l.volume = sym (extends.found l.volume h.cut) in
      let same : install_of world group l.volume ≡ install_of later group l.volume = λ i. to_install (of_lineage i) (of_found i) group in
      grind (arith, common_steps, (IsCopy-later plan world later extends group (install_of world group l.volume) h.copy), (install_of world group l.volume))
  MessageKept-later (Write group l r) h = IsWrite-later plan world later extends group l r h
  MessageKept-later (Gossip group l r) h = IsWrite-later plan world later extends group l r h
  MessageKept-later (Ack group l x s) h = grind (arith, common_steps, NodeGrows, Retains-source, Retains-later, (NodeGrows (world.nodes group x) (later.nodes group x)), (Retains-later plan world later extends group l.volume s (world.nodes group x).contents h.retains))
  MessageKept-later (CopyAsk group f) h = tt
  MessageKept-later (CopyReport group f x s p c) h = grind (arith, common_steps, (IsCopy-later plan world later extends group (held group x s) h.copy))
  MessageKept-later (PageAsk group l block point) h = tt
  MessageKept-later (Page group l x block point bytes) h = record {
    cut = extends.cut _ h.cut;
    kept = h.kept;
    ordered = h.ordered;
    complete = h.complete;
    stands = λ r i. (extends.logs _ h.cut r (h.stands r i).0, (h.stands r i).1);
    page = h.page;
  }
