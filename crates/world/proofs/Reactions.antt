-- What a node keeps after a message, a restart or an offer.
use Rattle.std.proofs.Common.{◌≡◌, ℕ, false, not, ◌&&◌, ◌==◌, nat_lt, nat_le, if◌then◌else◌, ◌⊎◌, [], ◌∷◌, Option, Some, None, Ok, length, refl, sym, ◌∙◌, subst, inl, inr, true}
use Rattle.std.proofs.lemmas.Bool.{cases_Bool, not-false}
use Rattle.volume_model.specs.Common.{IsIn, Redo, holds_record, record_at, Contents, KeptPiece, Piece, Pieces, has_piece, is_bad_piece, is_complete, most_pieces, pieces_from, with_install, with_piece, Plan, is_configuration, Label, Message, StepTo, Fence, Install, Write, Gossip, CopyAsk, CopyReport, PageAsk, NodeAnswer, NodeStep, gossip_of, in_group, installed, lineage_epoch, most_copies, most_records, offered, reaction, restarted, take_record, label_checks, deliver}
use Rattle.volume_model.specs.Node.{Node}
use Rattle.volume_model.proofs.Basics.{IsIn-append_right, any_passes}
use Rattle.volume_model.proofs.NodeSteps.{page_answer-ok, refuse_if-ok}
use Rattle.volume_model.specs.declared.fault.Fault.TheVariants.{AheadMember, AlreadyWhole, BadPiece, Full, NotAddressed, NotInPlan, NotInstalled, NotWhole, SeriesSpent, StaleMember}
use Rattle.std.proofs.lemmas.Grind.{common_steps}
use Rattle.std.proofs.Common.{arith}

pub Ok-node : (a b : NodeStep) → ◌≡◌ {A = NodeAnswer} (Ok a) (Ok b) → a ≡ b
Ok-node a b h = cc

-- a label that passes its tests leaves the rest
passed : (node : Node) (l : Label) (rest : NodeAnswer) (step : NodeStep) → label_checks node l rest ≡ Ok step → rest ≡ Ok step
passed node l rest step h = grind (arith, common_steps)

-- a piece is kept
abbrev pub HasPiece : Pieces → Type 0
HasPiece pieces = (kept : KeptPiece) × IsIn kept pieces.kept

-- with the piece that came last there is one
with_piece-some : (pieces : Pieces) (piece : Piece) (c : Contents) → HasPiece (with_piece pieces piece c)
with_piece-some pieces piece c =
    elim (cases_Bool (has_piece pieces piece.number)) [
      | inl has ↦ rw has (let (kept, i, test) = any_passes (λ (kept : KeptPiece). kept.number == piece.number) pieces.kept has in (kept, i))
      | inr lacks ↦ rw lacks (record { number = piece.number; contents = c }, IsIn-append_right pieces.kept (record { number = piece.number; contents = c } ∷ []) (record { number = piece.number; contents = c }) (inl refl))
    ]

-- the same of an install with the piece that came last
with_install-some : (old : Option Pieces) (volume : ℕ) (piece : Piece) (c : Contents) → HasPiece (with_install old volume piece c)
with_install-some None volume piece c = (record { number = piece.number; contents = c }, inl refl)
with_install-some (Some pieces) volume piece c =
    elim (cases_Bool (pieces.series == volume)) [
      | inl same ↦ rw same (with_piece-some pieces piece c)
      | inr differ ↦ rw differ (record { number = piece.number; contents = c }, inl refl)
    ]

-- a node that keeps none keeps no pieces
pub none_is_not : (pieces : Pieces) → ◌≡◌ {A = Option Pieces} None (Some pieces) → ⊥
none_is_not pieces e = cc

-- two nodes that keep the same keep the same pieces
some_is : (a b : Pieces) → ◌≡◌ {A = Option Pieces} (Some a) (Some b) → a ≡ b
some_is a b e = cc

-- ---- one step of a node

-- a Fence and an Install promise their volume epoch
abbrev pub Promises : Message → ℕ → Type 0
Promises (Fence to l) volume = volume ≡ l.volume
Promises (Install to l piece c) volume = volume ≡ l.volume
Promises m volume = ⊥

module _ (plan : Plan) (group x : ℕ) (node : Node) where
  -- A node that isn't whole asks for copies at a new place. What the node keeps of an install after the step it kept
  -- before, or it has a piece.
  pub record Leaves (step : NodeStep) : Type 0 where
    pub whole : step.node.whole ≡ node.whole
    pub place : (step.node.place ≡ node.place) ⊎ (step.node.whole ≡ false → IsIn (CopyAsk group step.node.place.epoch) step.made)
    pub install : (pieces : Pieces) → step.node.install ≡ Some pieces → (node.install ≡ Some pieces) ⊎ HasPiece pieces

  -- the volume epoch after a message is the one before, or the message promises it
  abbrev pub Reacts : Message → NodeStep → Type 0
  Reacts m step = Leaves step × ((step.node.volume ≡ node.volume) ⊎ Promises m step.node.volume)

  same : (step : NodeStep) → step.node.whole ≡ node.whole → step.node.place ≡ node.place → step.node.install ≡ node.install → Leaves step
  same step whole place install = record { whole = whole; place = inl place; install = λ pieces k. inl (sym install ∙ k) }

  record_leaves : (m : Message) (l : Label) (r : Redo) (step : NodeStep) → take_record group x node l r ≡ Ok step → Reacts m step
  record_leaves m l r step h =
      let h1 = passed node l _ step h in
      let (a, h2) = refuse_if-ok (not (lineage_epoch node == l.volume)) NotInstalled _ step h1 in
      let (b, h3) = refuse_if-ok (not (holds_record r node.contents.records) && nat_le most_records (length node.contents.records)) Full _ step h2 in
      subst (Reacts m) (Ok-node _ step h3) (same _ refl refl refl, inl refl)

  installed_leaves : (l : Label) (piece : Piece) (c : Contents) → Leaves (installed group x node l piece c) × ((installed group x node l piece c).node.volume ≡ l.volume)
  unfolding installed
  installed_leaves l piece c =
      elim (cases_Bool (lineage_epoch node == l.volume)) [
        | inl e ↦ rw e (same _ refl refl refl, refl)
        | inr e ↦ elim (cases_Bool (is_complete (with_install node.install l.volume piece c))) [
          | inl f ↦ rw (e, f) (record { whole = refl; place = inl refl; install = λ pieces k. absurd (none_is_not pieces k) }, refl)
          | inr f ↦ rw (e, f) (record { whole = refl; place = inl refl; install = λ pieces k. inr (subst HasPiece (some_is _ pieces k) (with_install-some node.install l.volume piece c)) }, refl)
        ]
      ]

  -- each message
  pub reaction_leaves : (m : Message) (step : NodeStep) → reaction plan group x node m ≡ Ok step → Reacts m step
  reaction_leaves (Fence to l) step h =
      let (a, h1) = refuse_if-ok (not (to == group)) NotAddressed _ step h in
      subst (Reacts (Fence to l)) (Ok-node _ step (passed node l _ step h1)) (same _ refl refl refl, inr refl)
  reaction_leaves (Install to l piece c) step h =
      let (a, h1) = refuse_if-ok (not (to == group && in_group group c)) NotAddressed _ step h in
      let h2 = passed node l _ step h1 in
      let (b, h3) = refuse_if-ok (nat_lt most_pieces piece.of) Full _ step h2 in
      let (d, h4) = refuse_if-ok (is_bad_piece node.install l.volume piece c) BadPiece _ step h3 in
      let (leaves, promised) = installed_leaves l piece c in
      subst (Reacts (Install to l piece c)) (Ok-node _ step h4) (leaves, inr promised)
  reaction_leaves (Write to l r) step h = record_leaves (Write to l r) l r step (refuse_if-ok (not (to == group && r.group == group)) NotAddressed _ step h).1
  reaction_leaves (Gossip to l r) step h = record_leaves (Gossip to l r) l r step (refuse_if-ok (not (to == group && r.group == group)) NotAddressed _ step h).1
  reaction_leaves (StepTo to place) step h =
      let (a, h1) = refuse_if-ok (not (to == group)) NotAddressed _ step h in
      let (b, h2) = refuse_if-ok (nat_le place.epoch node.place.epoch) StaleMember _ step h1 in
      let (c, h3) = refuse_if-ok (not (is_configuration plan group place.configuration place.epoch)) NotInPlan _ step h2 in
      subst (Reacts (StepTo to place)) (Ok-node _ step h3) (record { whole = refl; place = inr asks; install = λ pieces k. absurd (none_is_not pieces k) }, inl refl)
    where
      asks : node.whole ≡ false → IsIn (CopyAsk group place.epoch) (if node.whole then [] else CopyAsk group place.epoch ∷ [])
      asks un = rw un (inl refl)
  reaction_leaves (CopyAsk to epoch) step h =
      let (a, h1) = refuse_if-ok (not (to == group)) NotAddressed _ step h in
      let (b, h2) = refuse_if-ok (nat_lt epoch node.place.epoch) StaleMember _ step h1 in
      let (c, h3) = refuse_if-ok (nat_lt node.place.epoch epoch) AheadMember _ step h2 in
      let (d, h4) = refuse_if-ok (not node.whole) NotWhole _ step h3 in
      let (f, h5) = refuse_if-ok (nat_le most_copies node.copied) SeriesSpent _ step h4 in
      subst (Reacts (CopyAsk to epoch)) (Ok-node _ step h5) (same _ refl refl refl, inl refl)
  reaction_leaves (CopyReport to epoch sender s piece c) step h =
      let (a, h1) = refuse_if-ok (not (to == group && in_group group c && nat_lt sender 64)) NotAddressed _ step h in
      let (w, h2) = refuse_if-ok node.whole AlreadyWhole _ step h1 in
      let (b, h3) = refuse_if-ok (nat_lt epoch node.place.epoch) StaleMember _ step h2 in
      let (d, h4) = refuse_if-ok (nat_lt node.place.epoch epoch) AheadMember _ step h3 in
      let (f, h5) = refuse_if-ok (is_bad_piece (pieces_from node.copies sender) s piece c) BadPiece _ step h4 in
      subst (Reacts (CopyReport to epoch sender s piece c)) (Ok-node _ step h5) (same _ refl refl refl, inl refl)
  reaction_leaves (PageAsk to l block point) step h =
      let (a, h1) = refuse_if-ok (not (to == group)) NotAddressed _ step h in
      let (v, d, is) = page_answer-ok plan group x node l block point step (passed node l _ step h1) in
      subst (Reacts (PageAsk to l block point)) (sym is) (same _ refl refl refl, inl refl)
  reaction_leaves m step h = cc

  -- a delivery
  pub deliver_leaves : (found : Option Message) (step : NodeStep) → deliver plan group x node found ≡ Ok step → Leaves step
  deliver_leaves None step h = cc
  deliver_leaves (Some m) step h = (reaction_leaves m step h).0

  -- a restart
  pub restart_leaves : (step : NodeStep) → ◌≡◌ {A = NodeAnswer} (Ok (record { made = []; node = restarted node })) (Ok step) → Leaves step × (step.node.volume ≡ node.volume)
  restart_leaves step h = subst (λ (s : NodeStep). Leaves s × (s.node.volume ≡ node.volume)) (Ok-node _ step h) (record { whole = refl; place = inl refl; install = λ pieces k. absurd (none_is_not pieces k) }, refl)

  -- an offer
  pub offer_leaves : (lsn : ℕ) (step : NodeStep) → offered group node lsn ≡ Ok step → (node.whole ≡ true) × Leaves step × (step.node.volume ≡ node.volume)
  offer_leaves lsn step h =
      let (a, h1) = refuse_if-ok (not node.whole) NotWhole _ step h in
      let (b, h2) = refuse_if-ok (not (node.volume == lineage_epoch node)) NotInstalled _ step h1 in
      let (leaves, promised) = go (record_at node.contents.records lsn) h2 in
      (not-false _ a, leaves, promised)
    where
      go : (found : Option Redo) → gossip_of group node found ≡ Ok step → Leaves step × (step.node.volume ≡ node.volume)
      go None h = cc
      go (Some r) h = subst (λ (s : NodeStep). Leaves s × (s.node.volume ≡ node.volume)) (Ok-node _ step h) (same _ refl refl refl, refl)
