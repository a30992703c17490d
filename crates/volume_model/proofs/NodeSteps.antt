-- Each step of a node keeps the invariant
use Rattle.std.proofs.Common.{◌≡◌, ℕ, suc, ◌^◌, ◌<◌, ◌≤◌, Bool, true, false, not, ◌&&◌, ◌==◌, nat_lt, nat_le, eqb, ◌⊎◌, ◌||◌, List, [], ◌∷◌, Option, Some, None, Result, Ok, Err, length, if◌then◌else◌, refl, sym, ap, ◌∙◌, subst, inl, inr, arith}
use Rattle.std.proofs.lemmas.Bool.{cases_Bool, and_parts, true≢false, both_ways, eqb-true, eqb-false, eq-eqb, ltb-true, ltb-false, leb-false, not-false}
use Rattle.volume_model.specs.Common.{IsIn, numbered, put_at, ◌>>=◌, sat, Redo, with_record, holds_record, record_at, scl, Lineage, last_epoch, last_start, is_live, extended, extension, Contents, newest, Piece, KeptPiece, Pieces, Copy, most_pieces, in_pieces, piece_in, is_piece, is_complete, is_of_other, is_bad_piece, contents_in, united, with_install, pieces_from, with_copy, copied_by, brought, Plan, has_member, is_configuration, is_named, IsCertified, Label, Place, Message, StepTo, Fence, Report, Install, Write, Gossip, Ack, CopyAsk, CopyReport, PageAsk, Page, refuse_if, NodeStep, NodeAnswer, lineage_epoch, has_configuration, label_checks, most_records, most_copies, take_record, install_step, installed, page_of, page_checks, page_answer, in_group, reaction, Hydrated, gathered, whole_node, hydrated, restarted, gossip_of, offered, World, groups_joined, of_node, after_step, deliver, if_there, IsPieceOf}
use Rattle.volume_model.proofs.FormulaLaws.{sat-some}
use Rattle.volume_model.specs.Lineage.{found_in}
use Rattle.volume_model.specs.Node.{Node}
use Rattle.volume_model.proofs.Basics.{numbered-in, map-has}
use Rattle.volume_model.proofs.Chains.{record_at-some}
use Rattle.volume_model.proofs.Invariant.{Held, label, path, log_of, found_of, lineage_of, HasCut, IsMade, IsCopy, IsSource, IsHydrated, IsSourced}
use Rattle.volume_model.proofs.Pieces.{in_pieces-from, ArePieces, with_install-are, with_install-series, with_copy-are, AreOf, part_of_contents, complete_some, all_contents, united-from, united-has, united-ordered, brought-from, brought-has, copied_by-has}
use Rattle.volume_model.proofs.Renewed.{IsReady}
use Rattle.volume_model.proofs.Kept.{IsPlace, NodeGrows, IsCopyOfPiece, IsInstallOfPiece, install_of, IsInstall, IsCopied, IsWhole, NodeKept, IsWrite, IsPage, MessageKept, IsKept}
use Rattle.volume_model.proofs.Ordered.{IsOrdered, with_record-ordered, found_in-ordered}
use Rattle.volume_model.proofs.Extends.{NodeGrows-same}
use Rattle.volume_model.proofs.Added.{MessageNew, messages_added}
use Rattle.volume_model.proofs.Changed.{node_changed}
use Rattle.volume_model.proofs.Records.{with_record-keeps, with_record-from, newest-most, newest-of, found_in-from, found_in-has}
use Rattle.volume_model.proofs.Sound.{Facts, facts, is_sound, found_in_log}
use Rattle.volume_model.specs.declared.fault.Fault.{Fault}
use Rattle.volume_model.specs.declared.fault.Fault.TheVariants.{NoActor, AheadMember, AlreadyWhole, BadPiece, Full, LsnSpent, NotAddressed, NotInPlan, NotInstalled, NotWhole, SeriesSpent, StaleMember, StaleVolume}
use Rattle.std.proofs.lemmas.Grind.{common_steps}

pub refuse_if-ok : {A : Type 0} (test : Bool) (number : Fault) (rest : Result A Fault) (x : A) → refuse_if test number rest ≡ Ok x → (test ≡ false) × (rest ≡ Ok x)
refuse_if-ok true number rest x h = cc
refuse_if-ok false number rest x h = (refl, h)

-- the tests of a piece have passed
good_piece : (a b : Bool) → (not a || b) ≡ false → (a ≡ true) × (b ≡ false)
good_piece true b h = (refl, h)
good_piece false b h = absurd (true≢false h)

-- what follows an answer that is no refusal
pub then-ok : {A B : Type 0} (first : Result A Fault) (rest : A → Result B Fault) (x : B) → (first >>= rest) ≡ Ok x → (y : A) × (first ≡ Ok y) × (rest y ≡ Ok x)
then-ok (Ok y) rest x h = (y, refl, h)
then-ok (Err fault) rest x h = cc

-- a lineage with its own entry, and what follows it
pub extension-ok : {A : Type 0} (parent : Lineage) (volume cut lal : ℕ) (rest : Lineage → Result A Fault) (x : A) → (extension parent volume cut lal >>= rest) ≡ Ok x → rest (extended parent volume cut lal) ≡ Ok x
extension-ok parent volume cut lal rest x h =
    let (own, is, h1) = then-ok (extension parent volume cut lal) rest x h in
    let (a, same) = refuse_if-ok (nat_lt (2 ^ 62) (last_start (extended parent volume cut lal))) LsnSpent _ own is in
    let e : own ≡ extended parent volume cut lal = cc in
    subst (λ (l : Lineage). rest l ≡ Ok x) e h1

-- a page whose tests have passed
pub page_answer-ok : (plan : Plan) (group member : ℕ) (node : Node) (l : Label) (block point : ℕ) (step : NodeStep) → page_answer plan group member node l block point ≡ Ok step
    → (lineage_epoch node ≡ l.volume) × (nat_lt (scl node.contents.records) point ≡ false) × (step ≡ record { made = Page group l member block point (page_of node.contents.records block point) ∷ []; node = node })
unfolding page_answer page_checks
page_answer-ok plan group member node l block point step h = grind (arith, common_steps)

-- what all copies amount to
abbrev pub all_of : List Copy → Hydrated
all_of copies =
    let lineage = newest (brought copies) in
    record { volume = last_epoch lineage; contents = record { lineage = lineage; records = found_in lineage (brought copies) } }

-- what was gathered of the copies of a read set
pub gathered-ok : (plan : Plan) (group member : ℕ) (node : Node) (h : Hydrated) → gathered plan group member node ≡ Ok h
    → (has_configuration plan group member node ≡ true) × (sat (plan.configuration group node.place.configuration).read (copied_by node.copies) ≡ true) × (h ≡ all_of node.copies)
unfolding gathered
gathered-ok plan group member node h got = grind (arith, common_steps)

-- what a node needs for becoming whole, and what it becomes
pub hydrated-ok : (plan : Plan) (group member : ℕ) (node : Node) (step : NodeStep) → hydrated plan group member node ≡ Ok step
    → (node.whole ≡ false) × (has_configuration plan group member node ≡ true) × (sat (plan.configuration group node.place.configuration).read (copied_by node.copies) ≡ true) × (step ≡ record { made = []; node = whole_node node (all_of node.copies) })
hydrated-ok plan group member node step h = grind (arith, common_steps, refuse_if-ok, node, then-ok, gathered-ok)

-- what a node says, of itself as the step leaves it
abbrev pub NodeSays : Held → World → ℕ → ℕ → Node → Message → Type 0
NodeSays held world group x node (Report to l from q) = (to ≡ group) × (from ≡ x) × (node.whole ≡ true) × (q ≡ node.contents) × (l.volume ≡ node.volume)
NodeSays held world group x node (Ack to l from s) = (to ≡ group) × (from ≡ x) × (node.whole ≡ true) × (l.volume ≡ node.volume) × (l.member ≡ node.place.epoch) × (last_epoch node.contents.lineage ≡ node.volume) × (s ≡ scl node.contents.records)
NodeSays held world group x node (CopyReport to f from s p c) = (to ≡ group) × (from ≡ x) × (node.whole ≡ true) × (held group x s ≡ node.contents) × IsPieceOf (held group x s) p c × (f ≡ node.place.epoch) × (s ≤ node.copied)
NodeSays held world group x node (Gossip to l r) = IsWrite world to l r
NodeSays held world group x node (CopyAsk to f) = Unit {0}
NodeSays held world group x node (Page to l from block point bytes) = IsPage world to l block point bytes
NodeSays held world group x node m = ⊥

-- a step of a node that keeps the invariant
pub record IsGoodStep (plan : Plan) (held : Held) (world : World) (group x : ℕ) (step : NodeStep) : Type 0 where
  pub grows : NodeGrows (world.nodes group x) step.node
  -- the node, as it was
  pub node : NodeKept plan held world group x step.node
  pub says : (m : Message) → IsIn m step.made → NodeSays held world group x step.node m

pub put_at-same : {A : Type 0} (f : ℕ → ℕ → A) (g x : ℕ) (value : A) → put_at f g x value g x ≡ value
put_at-same f g x value = rw (eq-eqb g g refl, eq-eqb x x refl) refl

module _ (plan : Plan) (certified : IsCertified plan) {held : Held} (world : World) (kept : IsKept plan held world) (ready : IsReady held world) (group x : ℕ) where
  says_new : group < plan.groups → (node : Node) → (m : Message) → NodeSays held world group x node m → MessageNew plan held (record world { nodes = put_at world.nodes group x node }) m
  says_new there node (Report to l from q) h = grind (arith, common_steps)
  says_new there node (Ack to l from s) h = grind (arith, common_steps)
  says_new there node (CopyReport to f from s p c) h = grind (arith, common_steps)
  says_new there node (Gossip to l r) h = record { cut = h.cut; stands = h.stands; group_is = h.group_is }
  says_new there node (CopyAsk to f) h = tt
  says_new there node (Page to l from block point bytes) h = record { cut = h.cut; kept = h.kept; ordered = h.ordered; complete = h.complete; stands = h.stands; page = h.page }
  says_new there node m h = absurd h

  -- an answer that is good where it isn't a refusal
  node_step : group < plan.groups → (answer : NodeAnswer) → ((step : NodeStep) → answer ≡ Ok step → IsGoodStep plan held world group x step) → IsKept plan held (after_step world (of_node world group x answer))
  node_step there (Err number) good = kept
  node_step there (Ok step) good =
      let g : IsGoodStep plan held world group x step = good step refl in
      messages_added plan certified held step.made (record world { nodes = put_at world.nodes group x step.node })
      (node_changed plan world kept group x step.node g.grows g.node)
      (λ m i. says_new there step.node m (g.says m i))

  pub named_step : (joined : ℕ) (answer : NodeAnswer) → (group < plan.groups → (step : NodeStep) → answer ≡ Ok step → IsGoodStep plan held world group x step) → IsKept plan held (after_step world (of_node world group x (if_there plan joined group x answer)))
  named_step joined answer good = go (nat_lt group joined && is_named plan group x) refl
    where
      go : (is : Bool) → (nat_lt group joined && is_named plan group x) ≡ is → IsKept plan held (after_step world (of_node world group x (refuse_if (not is) NoActor answer)))
      go false e = kept
      go true e = (let there : group < plan.groups = ltb-true group plan.groups (and_parts (nat_lt group plan.groups) _ (and_parts (nat_lt group joined) (is_named plan group x) e).1).0 in node_step there answer (good there))

  abbrev node : Node
  node = world.nodes group x

  module _ (there : group < plan.groups) where
    now : NodeKept plan held world group x node
    now = kept.nodes group x there

    -- what the tests of a label say
    record Passed (l : Label) : Type 0 where
      member : l.member ≡ node.place.epoch
      whole : node.whole ≡ true
      volume : node.volume ≤ l.volume

    passed : (l : Label) (rest : NodeAnswer) (step : NodeStep) → label_checks node l rest ≡ Ok step → Passed l × (rest ≡ Ok step)
    passed l rest step h =
        let (a, h1) = refuse_if-ok (nat_lt l.member node.place.epoch) StaleMember _ step h in
        let (b, h2) = refuse_if-ok (nat_lt node.place.epoch l.member) AheadMember _ step h1 in
        let (c, h3) = refuse_if-ok (not node.whole) NotWhole _ step h2 in
        let (d, h4) = refuse_if-ok (nat_lt l.volume node.volume) StaleVolume _ step h3 in
        let a' : node.place.epoch ≤ l.member = ltb-false _ _ a in
        let b' : l.member ≤ node.place.epoch = ltb-false _ _ b in
        (record { member = omega arith; whole = not-false node.whole c; volume = ltb-false _ _ d }, h4)

    Ok-is : (a b : NodeStep) → ◌≡◌ {A = NodeAnswer} (Ok a) (Ok b) → a ≡ b
    Ok-is a b h = cc

    source_same : (q : Contents) → IsSource q q
    source_same q = record { epoch = omega arith; records = λ e r i. i }

    source_after : (c q q' : Contents) → IsSource c q → IsSource q q' → IsSource c q'
    source_after c q q' a b = record {
      epoch = (let k : last_epoch c.lineage ≤ last_epoch q.lineage = a.epoch in let l : last_epoch q.lineage ≤ last_epoch q'.lineage = b.epoch in omega arith);
      records = λ e r i. (
          let k : last_epoch c.lineage ≤ last_epoch q.lineage = a.epoch in
          let l : last_epoch q.lineage ≤ last_epoch q'.lineage = b.epoch in
          b.records (omega arith) r (a.records (omega arith) r i));
    }

    sourced_after : (q q' : Contents) → IsSource q q' → IsSourced plan held world world.messages group x q → IsSourced plan held world world.messages group x q'
    sourced_after q q' s (inl h) = inl h
    sourced_after q q' s (inr h) = inr (record {
      at = h.at;
      positive = h.positive;
      there = h.there;
      member = h.member;
      readers = h.readers;
      reads = h.reads;
      source = λ y r. (let (n, p, c, i, k) = h.source y r in (n, p, c, i, source_after (held group y n) q q' k s));
    })

    -- a fence: the volume epoch rises, and the node reports
    fence_good : (l : Label) → Passed l → IsGoodStep plan held world group x (record { made = Report group l x node.contents ∷ []; node = record node { volume = l.volume } })
    fence_good l p =
        let w : IsWhole plan held world group x node = now.whole p.whole in
        let v : node.volume ≤ l.volume = p.volume in
        let b : last_epoch node.contents.lineage ≤ node.volume = w.below in
        record {
          grows = record { volume = v; epoch = omega arith; whole = λ h. h; contents = λ h. source_same node.contents; copied = omega arith };
          node = record { place = now.place; copies = now.copies; install = now.install; whole = λ h. record { copy = w.copy; below = omega arith; sourced = w.sourced; ordered = w.ordered } };
          says = λ m i. (let j : (m ≡ Report group l x node.contents) ⊎ ⊥ = i in elim j [
            | inl e ↦ subst (λ z. NodeSays held world group x (record node { volume = l.volume }) z) (sym e) (refl, refl, p.whole, refl, refl)
            | inr z ↦ absurd z
          ]);
        }

    -- contents that only grew come in, under the volume epoch of their lineage
    join_good : (l : Label) → Passed l → (q : Contents) → IsCopy world group q → last_epoch q.lineage ≡ l.volume → IsSource node.contents q → IsOrdered q.records → (install : Option Pieces) → ((pieces : Pieces) → install ≡ Some pieces → ArePieces (IsInstallOfPiece world group) pieces) → IsGoodStep plan held world group x (record { made = Ack group l x (scl q.records) ∷ []; node = record node { volume = l.volume; contents = q; install = install } })
    join_good l p q copy e source ordered install pieces =
        let w : IsWhole plan held world group x node = now.whole p.whole in
        let v : node.volume ≤ l.volume = p.volume in
        let after : Node = record node { volume = l.volume; contents = q; install = install } in
        record {
          grows = record { volume = v; epoch = omega arith; whole = λ h. h; contents = λ h. source; copied = omega arith };
          node = record { place = now.place; copies = now.copies; install = pieces; whole = λ h. record { copy = copy; below = omega arith; sourced = sourced_after node.contents q source w.sourced; ordered = ordered } };
          says = λ m i. (let j : (m ≡ Ack group l x (scl q.records)) ⊎ ⊥ = i in elim j [
            | inl e' ↦ subst (λ z. NodeSays held world group x after z) (sym e') (refl, refl, p.whole, refl, p.member, e, refl)
            | inr z ↦ absurd z
          ]);
        }

    record_good : (l : Label) (r : Redo) → IsWrite world group l r → (step : NodeStep) → take_record group x node l r ≡ Ok step → IsGoodStep plan held world group x step
    record_good l r write step h =
        let (p, h1) = passed l _ step h in
        let (a, h2) = refuse_if-ok (not (lineage_epoch node == l.volume)) NotInstalled _ step h1 in
        let (b, h3) = refuse_if-ok (not (holds_record r node.contents.records) && nat_le most_records (length node.contents.records)) Full _ step h2 in
        let records : List Redo = with_record r node.contents.records in
        let q : Contents = record { lineage = node.contents.lineage; records = records } in
        let e : last_epoch node.contents.lineage ≡ l.volume = eqb-true _ _ (not-false _ a) in
        let w : IsWhole plan held world group x node = now.whole p.whole in
        let copy : IsCopy world group q = record {
          cut = w.copy.cut;
          lineage = w.copy.lineage;
          records = λ s i. elim (with_record-from r node.contents.records s i) [
            | inl same ↦ (subst (λ z. IsIn z (log_of world (last_epoch node.contents.lineage))) (sym same) (subst (λ u. IsIn r (log_of world u)) (sym e) write.stands), ap (λ z. z.group) same ∙ write.group_is)
            | inr j ↦ w.copy.records s j
          ];
          found = λ s i g. with_record-keeps r node.contents.records s (w.copy.found s i g);
        } in
        let below : last_epoch node.contents.lineage ≤ node.volume = w.below in
        let above : node.volume ≤ l.volume = p.volume in
        let at : l.volume ≡ node.volume = omega arith in
        subst (λ z. IsGoodStep plan held world group x z) (Ok-is _ step h3)
        (subst (λ v. IsGoodStep plan held world group x (record { made = Ack group l x (scl q.records) ∷ []; node = record node { volume = v; contents = q } })) at
        (join_good l p q copy e (record { epoch = omega arith; records = λ same s i. with_record-keeps r node.contents.records s i }) (with_record-ordered r node.contents.records w.ordered) node.install now.install))

    no_install : (pieces : Pieces) → ◌≡◌ {A = Option Pieces} None (Some pieces) → ArePieces (IsInstallOfPiece world group) pieces
    no_install pieces e = cc

    -- what has the lineage and the records of a copy is one
    copy_from : (q : Contents) (lineage : Lineage) (records : List Redo) → IsCopy world group q → lineage ≡ q.lineage → ((r : Redo) → IsIn r records → IsIn r q.records) → ((r : Redo) → IsIn r q.records → IsIn r records) → IsCopy world group (record { lineage = lineage; records = records })
    copy_from q lineage records copy same within all =
        subst (λ z. IsCopy world group (record { lineage = z; records = records })) (sym same)
        (record { cut = copy.cut; lineage = copy.lineage; records = λ r i. copy.records r (within r i); found = λ r i g. all r (copy.found r i g) })

    -- a piece of an install, of a later volume epoch than that of the lineage
    module _ (l : Label) (piece : Piece) (c : Contents) (install : IsInstall world group l piece c) (made : IsMade world (Install group l piece c)) (other : is_of_other node.install l.volume piece ≡ false) (some : 0 < piece.of) (p : Passed l) where
      -- what is kept with it
      abbrev all : Pieces
      all = with_install node.install l.volume piece c

      -- what is installed
      abbrev whole_install : Contents
      whole_install = install_of world group l.volume

      all_reported : ArePieces (IsInstallOfPiece world group) all
      all_reported = with_install-are (IsInstallOfPiece world group) node.install l.volume piece c now.install other some (l.member, made)

      are : AreOf whole_install all
      are = record {
        some = all_reported.some;
        each = λ kept' i. (
            let (e, m) = all_reported.each kept' i in
            let k : IsInstall world group (label all.series e) (piece_in all kept') kept'.contents = kept.messages _ m in
            subst (λ v. IsPieceOf (install_of world group v) (piece_in all kept') kept'.contents) (with_install-series node.install l.volume piece c) k.is);
      }

      same_lineage : c.lineage ≡ whole_install.lineage
      same_lineage = ap (λ z. z.lineage) install.is.is

      united_copy : is_complete all ≡ true → IsCopy world group (record { lineage = c.lineage; records = united (contents_in all) })
      united_copy complete = copy_from whole_install c.lineage (united (contents_in all)) install.copy same_lineage
          (λ r i. (let (d, j, k) = united-from (contents_in all) r i in (part_of_contents whole_install all are d j).1 r k))
          (λ r i. (let (d, j, k) = all_contents whole_install all are complete r i in united-has (contents_in all) d r j k))

      install_joined : (last_epoch node.contents.lineage ≡ l.volume → ⊥) → IsGoodStep plan held world group x (install_step group x node l c.lineage all)
      install_joined n =
          let w : IsWhole plan held world group x node = now.whole p.whole in
          let b : last_epoch node.contents.lineage ≤ node.volume = w.below in
          let v : node.volume ≤ l.volume = p.volume in
          let e : last_epoch c.lineage ≡ l.volume = ap last_epoch same_lineage ∙ install.head in
          elim (cases_Bool (is_complete all)) [
            | inl complete ↦ rw complete (
                join_good l p (record { lineage = c.lineage; records = united (contents_in all) }) (united_copy complete) e
                (record { epoch = omega arith; records = λ same r i. absurd (n (same ∙ e)) }) (united-ordered (contents_in all)) None no_install)
            | inr part ↦ rw part (record {
              grows = record { volume = v; epoch = omega arith; whole = λ h. h; contents = λ h. source_same node.contents; copied = omega arith };
              node = record {
                place = now.place;
                copies = now.copies;
                install = λ pieces is. (let same : all ≡ pieces = cc in subst (λ z. ArePieces (IsInstallOfPiece world group) z) same all_reported);
                whole = λ h. record { copy = w.copy; below = omega arith; sourced = w.sourced; ordered = w.ordered };
              };
              says = λ m i. absurd i;
            })
          ]

      install_good : IsGoodStep plan held world group x (installed group x node l piece c)
      unfolding installed
      install_good =
          let w : IsWhole plan held world group x node = now.whole p.whole in
          elim (cases_Bool (eqb (lineage_epoch node) l.volume)) [
            | inl same ↦ rw same (join_good l p node.contents w.copy (eqb-true _ _ same) (source_same node.contents) w.ordered node.install now.install)
            | inr differs ↦ rw differs (install_joined (eqb-false _ _ differs))
          ]

    -- the place that a step names
    step_good : (place : Place) → IsPlace plan world group place → node.place.epoch < place.epoch → (made : List Message) → ((m : Message) → IsIn m made → NodeSays held world group x (record node { place = place; copies = []; install = None }) m) → IsGoodStep plan held world group x (record { made = made; node = record node { place = place; copies = []; install = None } })
    step_good place is above made says = record {
      grows = record { volume = omega arith; epoch = omega arith; whole = λ h. h; contents = λ h. source_same node.contents; copied = omega arith };
      node = record { place = inr is; copies = λ copy i. absurd i; install = no_install; whole = λ h. record { copy = (now.whole h).copy; below = (now.whole h).below; sourced = (now.whole h).sourced; ordered = (now.whole h).ordered } };
      says = says;
    }

    said_nothing : (after : Node) → (m : Message) → IsIn m [] → NodeSays held world group x after m
    said_nothing after m i = absurd i

    asked : (whole : Bool) (epoch : ℕ) (after : Node) → (m : Message) → IsIn m (if whole then [] else CopyAsk group epoch ∷ []) → NodeSays held world group x after m
    asked true epoch after m i = absurd i
    asked false epoch after m i =
        let j : (m ≡ CopyAsk group epoch) ⊎ ⊥ = i in
        elim j [ inl e ↦ subst (λ z. NodeSays held world group x after z) (sym e) tt | inr z ↦ absurd z ]

    -- the copy that a whole node makes
    copied_good : (epoch : ℕ) → epoch ≡ node.place.epoch → node.whole ≡ true → IsGoodStep plan held world group x (record { made = in_pieces node.contents (CopyReport group epoch x (suc node.copied)); node = record node { copied = suc node.copied } })
    copied_good epoch at whole =
        let after : Node = record node { copied = suc node.copied } in
        record {
          grows = record { volume = omega arith; epoch = omega arith; whole = λ h. h; contents = λ h. source_same node.contents; copied = omega arith };
          node = record { place = now.place; copies = now.copies; install = now.install; whole = λ h. record { copy = (now.whole h).copy; below = (now.whole h).below; sourced = (now.whole h).sourced; ordered = (now.whole h).ordered } };
          says = λ m i. (
              let (p, c, is, e) = in_pieces-from node.contents (CopyReport group epoch x (suc node.copied)) m i in
              let of_held : IsPieceOf (held group x (suc node.copied)) p c = subst (λ z. IsPieceOf z p c) (sym (ready group x)) is in
              subst (λ z. NodeSays held world group x after z) (sym e) (refl, refl, whole, ready group x, of_held, at, omega arith));
        }

    -- whatever message comes
    reaction_good : (m : Message) → IsMade world m → (step : NodeStep) → reaction plan group x node m ≡ Ok step → IsGoodStep plan held world group x step
    reaction_good (Fence to l) made step h =
        let (a, h1) = refuse_if-ok (not (to == group)) NotAddressed _ step h in
        let (p, h2) = passed l _ step h1 in
        subst (λ z. IsGoodStep plan held world group x z) (Ok-is _ step h2) (fence_good l p)
    reaction_good (Install to l piece c) made step h =
        let (a, h1) = refuse_if-ok (not (to == group && in_group group c)) NotAddressed _ step h in
        let (p, h2) = passed l _ step h1 in
        let (b, h3) = refuse_if-ok (nat_lt most_pieces piece.of) Full _ step h2 in
        let (d, h4) = refuse_if-ok (is_bad_piece node.install l.volume piece c) BadPiece _ step h3 in
        let good : (is_piece piece c ≡ true) × (is_of_other node.install l.volume piece ≡ false) = good_piece _ _ d in
        let below : piece.number < piece.of = ltb-true _ _ (and_parts (nat_lt piece.number piece.of) _ good.0).0 in
        let e : to ≡ group = eqb-true to group (and_parts (eqb to group) _ (not-false _ a)).0 in
        let made' : IsMade world (Install group l piece c) = subst (λ g. IsMade world (Install g l piece c)) e made in
        let k : IsInstall world group l piece c = kept.messages _ made' in
        subst (λ z. IsGoodStep plan held world group x z) (Ok-is _ step h4) (install_good l piece c k made' good.1 (omega arith) p)
    reaction_good (Write to l r) made step h =
        let (a, h1) = refuse_if-ok (not (to == group && r.group == group)) NotAddressed _ step h in
        let e : to ≡ group = eqb-true to group (and_parts (eqb to group) _ (not-false _ a)).0 in
        let k : MessageKept plan held world (Write to l r) = kept.messages _ made in
        record_good l r (subst (λ g. IsWrite world g l r) e k) step h1
    reaction_good (Gossip to l r) made step h =
        let (a, h1) = refuse_if-ok (not (to == group && r.group == group)) NotAddressed _ step h in
        let e : to ≡ group = eqb-true to group (and_parts (eqb to group) _ (not-false _ a)).0 in
        let k : MessageKept plan held world (Gossip to l r) = kept.messages _ made in
        record_good l r (subst (λ g. IsWrite world g l r) e k) step h1
    reaction_good (StepTo to place) made step h =
        let (a, h1) = refuse_if-ok (not (to == group)) NotAddressed _ step h in
        let (b, h2) = refuse_if-ok (nat_le place.epoch node.place.epoch) StaleMember _ step h1 in
        let (c, h3) = refuse_if-ok (not (is_configuration plan group place.configuration place.epoch)) NotInPlan _ step h2 in
        let e : to ≡ group = eqb-true to group (not-false _ a) in
        let k : MessageKept plan held world (StepTo to place) = kept.messages _ made in
        subst (λ z. IsGoodStep plan held world group x z) (Ok-is _ step h3)
        (step_good place (subst (λ g. IsPlace plan world g place) e k) (leb-false place.epoch node.place.epoch b) _ (asked node.whole place.epoch (record node { place = place; copies = []; install = None })))
    reaction_good (CopyAsk to epoch) made step h =
        let (a, h1) = refuse_if-ok (not (to == group)) NotAddressed _ step h in
        let (b, h2) = refuse_if-ok (nat_lt epoch node.place.epoch) StaleMember _ step h1 in
        let (c, h3) = refuse_if-ok (nat_lt node.place.epoch epoch) AheadMember _ step h2 in
        let (d, h4) = refuse_if-ok (not node.whole) NotWhole _ step h3 in
        let (f, h5) = refuse_if-ok (nat_le most_copies node.copied) SeriesSpent _ step h4 in
        let b' : node.place.epoch ≤ epoch = ltb-false _ _ b in
        let c' : epoch ≤ node.place.epoch = ltb-false _ _ c in
        subst (λ z. IsGoodStep plan held world group x z) (Ok-is _ step h5) (copied_good epoch (omega arith) (not-false node.whole d))
    reaction_good (CopyReport to epoch sender s piece c) made step h =
        let (a, h1) = refuse_if-ok (not (to == group && in_group group c && nat_lt sender 64)) NotAddressed _ step h in
        let (w, h2) = refuse_if-ok node.whole AlreadyWhole _ step h1 in
        let (b, h3) = refuse_if-ok (nat_lt epoch node.place.epoch) StaleMember _ step h2 in
        let (d, h4) = refuse_if-ok (nat_lt node.place.epoch epoch) AheadMember _ step h3 in
        let (f, h5) = refuse_if-ok (is_bad_piece (pieces_from node.copies sender) s piece c) BadPiece _ step h4 in
        let good : (is_piece piece c ≡ true) × (is_of_other (pieces_from node.copies sender) s piece ≡ false) = good_piece _ _ f in
        let below : piece.number < piece.of = ltb-true _ _ (and_parts (nat_lt piece.number piece.of) _ good.0).0 in
        let b' : node.place.epoch ≤ epoch = ltb-false _ _ b in
        let d' : epoch ≤ node.place.epoch = ltb-false _ _ d in
        let addressed : ((to == group && in_group group c) ≡ true) × (nat_lt sender 64 ≡ true) = and_parts _ _ (not-false _ a) in
        let e : to ≡ group = eqb-true to group (and_parts (eqb to group) (in_group group c) addressed.0).0 in
        let same : epoch ≡ node.place.epoch = omega arith in
        let copies : List Copy = with_copy sender s piece c node.copies in
        let made' : IsCopyOfPiece world group node.place.epoch sender s piece c = subst (λ f. IsMade world (CopyReport group f sender s piece c)) same (subst (λ g. IsMade world (CopyReport g epoch sender s piece c)) e made) in
        subst (λ z. IsGoodStep plan held world group x z) (Ok-is _ step h5) (record {
          grows = record { volume = omega arith; epoch = omega arith; whole = λ h. h; contents = λ h. source_same node.contents; copied = omega arith };
          node = record {
            place = now.place;
            copies = with_copy-are (IsCopyOfPiece world group node.place.epoch) sender s piece c node.copies now.copies good.1 (omega arith) made';
            install = now.install;
            whole = λ h. record { copy = (now.whole h).copy; below = (now.whole h).below; sourced = (now.whole h).sourced; ordered = (now.whole h).ordered };
          };
          says = said_nothing (record node { copies = copies });
        })
    reaction_good (PageAsk to l block point) made step h =
        let (a, h1) = refuse_if-ok (not (to == group)) NotAddressed _ step h in
        let (p, h2) = passed l _ step h1 in
        let (v, d, is) = page_answer-ok plan group x node l block point step h2 in
        let w : IsWhole plan held world group x node = now.whole p.whole in
        let page : IsPage world group l block point (page_of node.contents.records block point) = record {
          cut = subst (λ u. HasCut world u) v w.copy.cut;
          kept = node.contents.records;
          ordered = w.ordered;
          complete = ltb-false _ _ d;
          stands = λ r i. (subst (λ u. IsIn r (log_of world u)) v (w.copy.records r i).0, (w.copy.records r i).1);
          page = refl;
        } in
        subst (λ z. IsGoodStep plan held world group x z) (sym is) (record {
          grows = NodeGrows-same node;
          node = now;
          says = λ m i. (let j : (m ≡ Page group l x block point (page_of node.contents.records block point)) ⊎ ⊥ = i in elim j [
            | inl e ↦ subst (λ z. NodeSays held world group x node z) (sym e) page
            | inr z ↦ absurd z
          ]);
        })
    reaction_good m made step h = cc

    -- what a complete copy brought is a part of what its sender held, and all of that was brought
    record IsReportedPiece (snapshot c : Contents) : Type 0 where
      copy : IsCopy world group snapshot
      lineage : c.lineage ≡ snapshot.lineage
      within : (r : Redo) → IsIn r c.records → IsIn r snapshot.records
      all : (r : Redo) → IsIn r snapshot.records → (d : Contents) × IsIn d (brought node.copies) × IsIn r d.records

    -- what was held by the sender of a copy
    abbrev held_by : Copy → Contents
    held_by copy = held group copy.sender copy.pieces.series

    reported_by : (copy : Copy) → IsIn copy node.copies → is_complete copy.pieces ≡ true → (c : Contents) → IsIn c (contents_in copy.pieces) → IsReportedPiece (held_by copy) c
    reported_by copy i complete c j =
        let event_result : ArePieces (IsCopyOfPiece world group node.place.epoch copy.sender) copy.pieces = now.copies copy i in
        let of_it : (k : KeptPiece) → IsIn k copy.pieces.kept → IsCopied held world group node.place.epoch copy.sender copy.pieces.series (piece_in copy.pieces k) k.contents = λ k l. kept.messages _ (event_result.each k l) in
        let are : AreOf (held_by copy) copy.pieces = record { some = event_result.some; each = λ k l. (of_it k l).is } in
        let (k, l) = complete_some _ copy.pieces event_result complete in
        let part : (c.lineage ≡ (held_by copy).lineage) × ((r : Redo) → IsIn r c.records → IsIn r (held_by copy).records) = part_of_contents (held_by copy) copy.pieces are c j in
        record {
          copy = (of_it k l).copy;
          lineage = part.0;
          within = part.1;
          all = λ r m. (let (d, n, h) = all_contents (held_by copy) copy.pieces are complete r m in (d, brought-has node.copies copy d i complete n, h));
        }

    event_result : (c : Contents) → IsIn c (brought node.copies) → (snapshot : Contents) × IsReportedPiece snapshot c
    event_result c i = let (copy, j, complete, part) = brought-from node.copies c i in (held_by copy, reported_by copy j complete c part)

    -- becoming whole
    pub hydrated_good : (step : NodeStep) → hydrated plan group x node ≡ Ok step → IsGoodStep plan held world group x step
    hydrated_good step h =
        let (w, own, reads, is) = hydrated-ok plan group x node step h in
        let has : (nat_lt 0 node.place.epoch ≡ true) × (has_member (plan.configuration group node.place.configuration) x ≡ true) = and_parts _ _ own in
        let positive : 0 < node.place.epoch = ltb-true _ _ has.0 in
        elim now.place [
          | inl z ↦ absurd (omega arith)
          | inr place ↦ subst (λ z. IsGoodStep plan held world group x z) (sym is) (whole_good w place has.1 reads)
        ]
      where
        whole_good : node.whole ≡ false → IsPlace plan world group node.place → has_member (plan.configuration group node.place.configuration) x ≡ true → sat (plan.configuration group node.place.configuration).read (copied_by node.copies) ≡ true → IsGoodStep plan held world group x (record { made = []; node = whole_node node (all_of node.copies) })
        whole_good w place member reads =
            let all : List Contents = brought node.copies in
            let lineage : Lineage = newest all in
            let q : Contents = record { lineage = lineage; records = found_in lineage all } in
            let at : ℕ = node.place.epoch in
            let line_there : path plan world group at < plan.configurations group = ((is_sound plan certified world kept).line group there).there at place.positive place.there in
            let configuration_there : node.place.configuration < plan.configurations group = subst (λ c. c < plan.configurations group) (sym place.configuration) line_there in
            let some : (y : ℕ) × (copied_by node.copies y ≡ true) = sat-some (plan.configuration group node.place.configuration).read (copied_by node.copies) (certified.quorums group node.place.configuration there configuration_there).valid_read reads in
            let first : (copy : Copy) × IsIn copy node.copies × (copy.sender ≡ some.0) × (is_complete copy.pieces ≡ true) = copied_by-has node.copies some.0 some.1 in
            let piece : (piece : KeptPiece) × IsIn piece first.0.pieces.kept = complete_some _ first.0.pieces (now.copies first.0 first.1) first.3 in
            let one : (d : Contents) × IsIn d all × (lineage ≡ d.lineage) = newest-of all piece.0.contents (brought-has node.copies first.0 piece.0.contents first.1 first.3 (map-has (λ piece. piece.contents) first.0.pieces.kept piece.0 piece.1)) in
            let d : Contents = one.0 in
            let (newest_held, newest_reported) = event_result d one.1 in
            let newest_copy : IsCopy world group newest_held = newest_reported.copy in
            let last : ℕ = last_epoch lineage in
            let same_lineage : lineage ≡ newest_held.lineage = one.2 ∙ newest_reported.lineage in
            let same_last : last_epoch newest_held.lineage ≡ last = ap last_epoch (sym same_lineage) in
            let cut : HasCut world last = subst (λ u. HasCut world u) same_last newest_copy.cut in
            let known : lineage ≡ lineage_of world last = same_lineage ∙ newest_copy.lineage ∙ ap (λ u. lineage_of world u) same_last in
            let f : Facts plan world last = facts plan certified world kept last cut in
            let live : (r : Redo) → IsIn r (log_of world last) → is_live lineage r.volume r.lsn ≡ true = λ r i. subst (λ z. is_live z r.volume r.lsn ≡ true) (sym known) (f.live r i) in
            let most : (snapshot c : Contents) → IsIn c all → IsReportedPiece snapshot c → last_epoch snapshot.lineage ≤ last = λ snapshot c i t. subst (λ z. last_epoch z ≤ last) t.lineage (newest-most all c i) in
            let copy : IsCopy world group q = record {
              cut = cut;
              lineage = known;
              records = λ r i. (
                  let t : (c : Contents) × IsIn c all × IsIn r c.records × (is_live lineage r.volume r.lsn ≡ true) = found_in-from lineage all r i in
                  let (snapshot, k) = event_result t.0 t.1 in
                  let j : IsIn r snapshot.records = k.within r t.2 in
                  (f.stands (last_epoch snapshot.lineage) (most snapshot t.0 t.1 k) k.copy.cut r (k.copy.records r j).0 (subst (λ z. is_live z r.volume r.lsn ≡ true) known t.3), (k.copy.records r j).1));
              found = λ r i g. (
                  let j : IsIn r newest_held.records = newest_copy.found r (subst (λ u. IsIn r (found_of world u)) (sym same_last) i) g in
                  let (c, k, h) = newest_reported.all r j in
                  found_in-has lineage all c r k h (live r (found_in_log plan certified world kept last cut r i)));
            } in
            let hydrated_now : IsHydrated plan held world world.messages group x q = record {
              at = at;
              positive = place.positive;
              there = place.there;
              member = subst (λ c. has_member (plan.configuration group c) x ≡ true) place.configuration member;
              readers = copied_by node.copies;
              reads = subst (λ c. sat (plan.configuration group c).read (copied_by node.copies) ≡ true) place.configuration reads;
              source = λ y r. (
                  let (z, i, same, complete) = copied_by-has node.copies y r in
                  let (k, j) = complete_some _ z.pieces (now.copies z i) complete in
                  let there' : IsIn k.contents (contents_in z.pieces) = map-has (λ piece. piece.contents) z.pieces.kept k j in
                  let t : IsReportedPiece (held_by z) k.contents = reported_by z i complete k.contents there' in
                  subst (λ y. (s : ℕ) × (p : Piece) × (c : Contents) × IsMade world (CopyReport group at y s p c) × IsSource (held group y s) q) same (
                    z.pieces.series,
                    piece_in z.pieces k,
                    k.contents,
                    (now.copies z i).each k j,
                    record {
                      epoch = most (held_by z) k.contents (brought-has node.copies z k.contents i complete there') t;
                      records = λ same r i'. (let (c, m, h) = t.all r i' in found_in-has lineage all c r m h (live r (subst (λ u. IsIn r (log_of world u)) same (t.copy.records r i').0)));
                    },
                  ));
            } in
            record {
              grows = record { volume = omega arith; epoch = omega arith; whole = λ h. refl; contents = λ h. absurd (both_ways node.whole w h); copied = omega arith };
              node = record { place = now.place; copies = now.copies; install = now.install; whole = λ h. record { copy = copy; below = omega arith; sourced = inr hydrated_now; ordered = found_in-ordered lineage all } };
              says = said_nothing (whole_node node (all_of node.copies));
            }

    pub restarted_good : IsGoodStep plan held world group x (record { made = []; node = restarted node })
    restarted_good = record {
      grows = record { volume = omega arith; epoch = omega arith; whole = λ h. h; contents = λ h. source_same node.contents; copied = omega arith };
      node = record { place = now.place; copies = λ copy i. absurd i; install = no_install; whole = λ h. record { copy = (now.whole h).copy; below = (now.whole h).below; sourced = (now.whole h).sourced; ordered = (now.whole h).ordered } };
      says = said_nothing (restarted node);
    }

    -- one of its records, for the others
    pub offered_good : (lsn : ℕ) (step : NodeStep) → offered group node lsn ≡ Ok step → IsGoodStep plan held world group x step
    offered_good lsn step h =
        let (a, h1) = refuse_if-ok (not node.whole) NotWhole _ step h in
        let (b, h2) = refuse_if-ok (not (node.volume == lineage_epoch node)) NotInstalled _ step h1 in
        go (record_at node.contents.records lsn) refl (not-false node.whole a) (eqb-true node.volume (lineage_epoch node) (not-false _ b)) h2
      where
        go : (found : Option Redo) → record_at node.contents.records lsn ≡ found → node.whole ≡ true → node.volume ≡ lineage_epoch node → gossip_of group node found ≡ Ok step → IsGoodStep plan held world group x step
        go None e w v h = cc
        go (Some r) e w v h =
            let whole : IsWhole plan held world group x node = now.whole w in
            let i : IsIn r node.contents.records = (record_at-some node.contents.records lsn r e).0 in
            let k : IsIn r (log_of world (lineage_epoch node)) × (r.group ≡ group) = whole.copy.records r i in
            let l : Label = record { volume = node.volume; member = node.place.epoch } in
            let write : IsWrite world group l r = record {
              cut = subst (λ u. HasCut world u) (sym v) whole.copy.cut;
              stands = subst (λ u. IsIn r (log_of world u)) (sym v) k.0;
              group_is = k.1;
            } in
            subst (λ z. IsGoodStep plan held world group x z) (Ok-is _ step h) (record {
              grows = NodeGrows-same node;
              node = now;
              says = λ m i. (let j : (m ≡ Gossip group l r) ⊎ ⊥ = i in elim j [
                | inl e ↦ subst (λ z. NodeSays held world group x node z) (sym e) write
                | inr z ↦ absurd z
              ]);
            })

    pub delivered_good : (number : ℕ) (step : NodeStep) → deliver plan group x node (numbered world.messages number) ≡ Ok step → IsGoodStep plan held world group x step
    delivered_good number step h = go (numbered world.messages number) refl h
      where
        go : (found : Option Message) → numbered world.messages number ≡ found → deliver plan group x node found ≡ Ok step → IsGoodStep plan held world group x step
        go None e h = cc
        go (Some m) e h = reaction_good m (numbered-in world.messages number m e) step h

  pub deliver_kept : (number : ℕ) → IsKept plan held (after_step world (of_node world group x (if_there plan (groups_joined world.authority) group x (deliver plan group x (world.nodes group x) (numbered world.messages number)))))
  deliver_kept number = named_step _ _ (λ there step h. delivered_good there number step h)

  pub hydrate_kept : IsKept plan held (after_step world (of_node world group x (if_there plan (groups_joined world.authority) group x (hydrated plan group x (world.nodes group x)))))
  hydrate_kept = named_step _ _ (λ there step h. hydrated_good there step h)

  pub restart_kept : IsKept plan held (after_step world (of_node world group x (if_there plan (groups_joined world.authority) group x (Ok (record { made = []; node = restarted (world.nodes group x) })))))
  restart_kept = named_step _ _ (λ there step h. subst (λ z. IsGoodStep plan held world group x z) (Ok-is there _ step h) (restarted_good there))

  pub offer_kept : (lsn : ℕ) → IsKept plan held (after_step world (of_node world group x (if_there plan (groups_joined world.authority) group x (offered group (world.nodes group x) lsn))))
  offer_kept lsn = named_step _ _ (λ there step h. offered_good there lsn step h)
