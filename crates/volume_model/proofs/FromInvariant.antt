-- The headline, from what holds of a world
use Rattle.std.proofs.Common.{◌≡◌, ℕ, zero, suc, ◌+◌, ◌-◌, ◌<◌, ◌≤◌, true, false, ◌==◌, ◌⊎◌, List, [], ◌∷◌, ◌++◌, length, refl, sym, ap, ◌∙◌, subst, inl, inr, arith, le_refl}
use Rattle.std.proofs.lemmas.Bool.{cases_lt, cases_eq, cases_order, and_parts, both_ways, eqb-true, leb-true}
use Rattle.volume_model.specs.Common.{IsIn, IsBeginningOf, Members, sat, Redo, up_to, last_epoch, last_start, Contents, Plan, has_member, IsCertified, Piece, Label, Message, place_in, Report, Ack, CopyReport, From, senders, Stage, has_cut, is_open, reports_of, group_point_of, Unborn, Reading, Installing, Writing, World, Acknowledges, KeepsCommits}
use Rattle.volume_model.proofs.Basics.{any_passes, IsIn-append}
use Rattle.volume_model.proofs.Line.{IsLate, descent}
use Rattle.volume_model.proofs.Views.{place_in-there}
use Rattle.volume_model.proofs.Logs.{IsChain, same_record, IsIn-up_to, from_up_to, up_to-up_to, up_to-newer, IsBeginningOf-up_to}
use Rattle.volume_model.proofs.Chains.{complete_of-covers, consistency_point_below-at_most}
use Rattle.volume_model.proofs.Invariant.{Held, epoch_now, path, config, log_of, found_of, lineage_of, HasCut, IsMade, label, WasAt, IsInViews, IsCopy, Covers, IsSource, IsSourced, MessageSourced, IsHistory, IsReported, HasReadGroup, HasParent, IsLogged, IsSound}
use Rattle.std.proofs.lemmas.Grind.{common_steps}

pub Covers-weaker : (world : World) (group v m n : ℕ) (q : Contents) → n ≤ m → Covers world group v m q → Covers world group v n q
Covers-weaker world group v m n q h c = record { epoch = c.epoch; records = λ e r i g l. c.records e r i g (omega arith) }

pub Covers-source : (world : World) (group v m : ℕ) (source q : Contents) → IsSource source q → Covers world group v m source → Covers world group v m q
Covers-source world group v m source q s c = record {
  epoch = (let a : v ≤ last_epoch source.lineage = c.epoch in let b : last_epoch source.lineage ≤ last_epoch q.lineage = s.epoch in omega arith);
  records = λ e r i g l. (
      let p : last_epoch source.lineage ≡ v = omega arith in
      s.records (p ∙ sym e) r (c.records p r i g l));
}

-- where a message stands, with what was made before it
pub at_message : (plan : Plan) (held : Held) (world : World) (messages : List Message) → IsHistory plan held world messages → (m : Message) → IsIn m messages → (older : List Message) × IsHistory plan held world older × ((k : Message) → IsIn k older → IsIn k messages) × MessageSourced plan held world older m
at_message plan held world [] h m i = absurd i
at_message plan held world (k ∷ older) h m (inl e) = (older, h.1, (λ k' i. inr i), subst (λ z. MessageSourced plan held world older z) (sym e) h.0)
at_message plan held world (k ∷ older) h m (inr i) = grind (arith, common_steps, (at_message plan held world older h.1 m i))

module _ (plan : Plan) (certified : IsCertified plan) {held : Held} (world : World) (sound : IsSound plan held world) where
  pub volume_positive : (v : ℕ) → HasCut world v → 1 ≤ v
  volume_positive v h = elim (sound.logged v h).origin [ inl f ↦ (let o : v ≡ 1 = f.one in omega arith) | inr p ↦ (let b : p.parent < v = p.below in omega arith) ]

  -- every View of a later client names each group that an earlier one had
  pub named_later : (u v group e : ℕ) → u < v → group < plan.groups → 1 ≤ e → WasAt plan world u group e → IsInViews world v group
  named_later u v group e h there positive (inl a) q i =
      let born : plan.born ≤ length q = sound.view_born v q i in
      let below : group < plan.born = a.2 in
      (sound.view_epoch v q i group (omega arith)).0
  named_later u v group e h there positive (inr a) q i =
      let e' : (place_in a.0 group).epoch ≡ e = a.2 in
      let o : (place_in a.0 group).epoch ≤ (place_in q group).epoch = sound.views_ordered u v a.0 q h a.1 i group there in
      omega arith

  -- a later client's epochs are no earlier
  pub epochs_ordered : (u v group e f : ℕ) → 1 ≤ u → u < v → group < plan.groups → 1 ≤ e → 1 ≤ f → WasAt plan world u group e → WasAt plan world v group f → (1 ≤ e) × (e ≤ f) × (f ≤ epoch_now plan world group)
  epochs_ordered u v group e f l h there pe pf (inl a) (inl b) = absurd (let b' : v ≡ 1 = b.0 in omega arith)
  epochs_ordered u v group e f l h there pe pf (inr a) (inl b) = absurd (let b' : v ≡ 1 = b.0 in omega arith)
  epochs_ordered u v group e f l h there pe pf (inl a) (inr b) =
      let e' : e ≡ 1 = a.1 in
      let f' : (place_in b.0 group).epoch ≡ f = b.2 in
      let k : (1 ≤ (place_in b.0 group).epoch) × ((place_in b.0 group).epoch ≤ epoch_now plan world group) = sound.view_epoch v b.0 b.1 group (place_in-there b.0 group (omega arith)) in
      (omega arith, omega arith, omega arith)
  epochs_ordered u v group e f l h there pe pf (inr a) (inr b) =
      let e' : (place_in a.0 group).epoch ≡ e = a.2 in
      let f' : (place_in b.0 group).epoch ≡ f = b.2 in
      let i : (1 ≤ (place_in a.0 group).epoch) × ((place_in a.0 group).epoch ≤ epoch_now plan world group) = sound.view_epoch u a.0 a.1 group (place_in-there a.0 group (omega arith)) in
      let k : (1 ≤ (place_in b.0 group).epoch) × ((place_in b.0 group).epoch ≤ epoch_now plan world group) = sound.view_epoch v b.0 b.1 group (place_in-there b.0 group (omega arith)) in
      let o : (place_in a.0 group).epoch ≤ (place_in b.0 group).epoch = sound.views_ordered u v a.0 b.0 h a.1 b.1 group there in
      (omega arith, omega arith, omega arith)

  module _ (group : ℕ) (there : group < plan.groups) (v e m : ℕ) (positive : 1 ≤ e) (known : e ≤ epoch_now plan world group) (writers : Members) (writes : sat (config plan world group e).write writers ≡ true) (acked : (x : ℕ) → writers x ≡ true → (a : ℕ) × (s : ℕ) × (a ≤ e) × (m ≤ s) × IsMade world (Ack group (label v a) x s)) where
    -- the configurations that the group has had
    abbrev line : ℕ → ℕ
    line = path plan world group

    -- a late node's contents come from copies of which the same is true
    from_sources : (older : List Message) → ((f x s : ℕ) (p : Piece) (c : Contents) → IsIn (CopyReport group f x s p c) older → e < f → (writers x ≡ true) ⊎ IsLate plan group line e x → Covers world group v m (held group x s)) → (x : ℕ) (q : Contents) → IsSourced plan held world older group x q → IsLate plan group line e x → Covers world group v m q
    from_sources older before x q (inl root) late =
        let r : line 1 ≡ 0 = (sound.line group there).root in
        let n : has_member (plan.configuration group (line 1)) x ≡ false = late 1 (omega arith) positive in
        absurd (both_ways _ (rw r at n) root)
    from_sources older before x q (inr h) late =
        elim (cases_lt e h.at) [
          | inr low ↦ absurd (both_ways _ (late h.at h.positive low) h.member)
          | inl high ↦ (
              let s : h.at - e + e ≡ h.at = omega arith in
              let reads : sat (plan.configuration group (line (h.at - e + e))).read h.readers ≡ true = subst (λ n. sat (plan.configuration group (line n)).read h.readers ≡ true) (sym s) h.reads in
              let there' : h.at ≤ epoch_now plan world group = h.there in
              let (y, a, b) = descent plan certified group there line (epoch_now plan world group) (sound.line group there) (h.at - e) e h.readers writers positive (omega arith) reads writes in
              let (s', p, c, i, source) = h.source y a in
              Covers-source world group v m (held group y s') q source (before h.at y s' p c i high b))
        ]

    copy_covers : (older : List Message) → IsHistory plan held world older → ((k : Message) → IsIn k older → IsMade world k) → (f x s : ℕ) (p : Piece) (c : Contents) → IsIn (CopyReport group f x s p c) older → e < f → (writers x ≡ true) ⊎ IsLate plan group line e x → Covers world group v m (held group x s)
    copy_covers older history within f x s p c i h (inl w) =
        let (a, n, l, k, made) = acked x w in
        Covers-weaker world group v n m (held group x s) k (sound.acks_copies group v a x n f s p c made (within _ i) (omega arith))
    copy_covers [] history within f x s p c i h (inr late) = absurd i
    copy_covers (k ∷ older) history within f x s p c (inl e') h (inr late) =
        from_sources older (λ f' x' s' p' c' i' h' b. copy_covers older history.1 (λ k' j. within k' (inr j)) f' x' s' p' c' i' h' b) x (held group x s) (subst (λ z. MessageSourced plan held world older z) (sym e') history.0) late
    copy_covers (k ∷ older) history within f x s p c (inr i) h (inr late) =
        copy_covers older history.1 (λ k' j. within k' (inr j)) f x s p c i h (inr late)

    -- what a later client receives from a node that wrote, or that is behind
    report_covers : (l : Label) (x : ℕ) (q : Contents) → IsMade world (Report group l x q) → v < l.volume → (writers x ≡ true) ⊎ IsLate plan group line e x → Covers world group v m q
    report_covers l x q i h (inl w) =
        let (a, s, p, k, made) = acked x w in
        Covers-weaker world group v s m q k (sound.acks_reports group v a x s l q made i h)
    report_covers l x q i h (inr late) =
        let (older, history, within, sourced) = at_message plan held world world.messages sound.history (Report group l x q) i in
        from_sources older (copy_covers older history within) x q sourced late

  -- of a client that has cut: what is not above its cut was found
  found_below : (v : ℕ) → HasCut world v → (h : HasParent plan world v) → (r : Redo) → IsIn r (log_of world v) → r.lsn ≤ h.cut → IsIn r (found_of world v)
  found_below v c h r i l =
      let logged : IsLogged plan world v = sound.logged v c in
      let j : IsIn r (logged.own ++ found_of world v) = subst (λ z. IsIn r z) (sym logged.log) i in
      elim (IsIn-append logged.own (found_of world v) r j) [
        | inr k ↦ k
        | inl k ↦ absurd (
            let a : last_start (lineage_of world v) < r.lsn = (logged.owned r k).1 in
            let b : last_start (lineage_of world v) ≡ h.start = ap last_start h.lineage in
            let d : h.cut ≤ h.start = h.start_above in
            omega arith)
      ]

  -- up to its cut a client's log is its parent's
  as_parent : (v n : ℕ) → HasCut world v → (h : HasParent plan world v) → n ≤ h.cut → up_to n (log_of world v) ≡ up_to n (log_of world h.parent)
  as_parent v n c h l =
      let logged : IsLogged plan world v = sound.logged v c in
      ap (up_to n) (sym logged.log)
      ∙ up_to-newer n logged.own (found_of world v) (λ r i.
      let a : last_start (lineage_of world v) < r.lsn = (logged.owned r i).1 in
      let b : last_start (lineage_of world v) ≡ h.start = ap last_start h.lineage in
      let d : h.cut ≤ h.start = h.start_above in
      omega arith)
      ∙ ap (up_to n) h.found
      ∙ up_to-up_to n h.cut (log_of world h.parent) l

  module _ (v : ℕ) (cut : HasCut world v) (n : ℕ) (r : Redo) (stands : IsIn r (log_of world v)) (number : r.lsn ≡ n) (point : r.point ≡ true) (covered : (s : Redo) → IsIn s (log_of world v) → s.lsn ≤ n → s.lsn ≤ group_point_of (world.clients v).groups s.group) where
    -- what a later client has of it
    record Keeps (later : ℕ) : Type 0 where
      origin : HasParent plan world later
      above : n ≤ origin.cut
      same : up_to n (log_of world later) ≡ up_to n (log_of world v)

    -- some report that a later client kept has the record
    event_result : (later : ℕ) → v < later → (h : HasParent plan world later) → (s : Redo) → IsIn s (log_of world v) → s.lsn ≤ n → (from : From) × IsIn from (reports_of (world.clients later).groups s.group) × IsCopy world s.group from.contents × Covers world s.group v s.lsn from.contents × (last_epoch from.contents.lineage ≤ h.parent)
    event_result later below h s i l =
        let group : ℕ = s.group in
        let logged : IsLogged plan world v = sound.logged v cut in
        let there : group < plan.groups = logged.group_there s i in
        let k : s.lsn ≤ group_point_of (world.clients v).groups group = covered s i l in
        elim (sound.written v group there cut) [
          | inl z ↦ absurd (let pos : 0 < s.lsn = lsn_positive' (log_of world v) logged.chain s i in omega arith)
          | inr w ↦ (
              let read : HasReadGroup plan world later h.parent group = h.reads group there (named_later v later group w.at below there w.positive w.was) in
              let (one, low, high) = epochs_ordered v later group w.at read.at (volume_positive v cut) below there w.positive read.positive w.was read.was in
              let sum : read.at - w.at + w.at ≡ read.at = omega arith in
              let reads : sat (plan.configuration group (path plan world group (read.at - w.at + w.at))).read (senders (reports_of (world.clients later).groups group)) ≡ true =
              subst (λ a. sat (plan.configuration group (path plan world group a)).read (senders (reports_of (world.clients later).groups group)) ≡ true) (sym sum) read.reads in
              let (x, a, b) = descent plan certified group there (path plan world group) (epoch_now plan world group) (sound.line group there) (read.at - w.at) w.at (senders (reports_of (world.clients later).groups group)) w.writers one (omega arith) reads w.writes in
              let (from, j, e) = any_passes (λ f. f.sender == x) (reports_of (world.clients later).groups group) a in
              let e' : from.sender ≡ x = eqb-true from.sender x e in
              let kept : IsMade world (Report group (label later read.at) from.sender from.contents) × (last_epoch from.contents.lineage ≤ h.parent) = read.kept from j in
              let b' : (w.writers from.sender ≡ true) ⊎ IsLate plan group (path plan world group) w.at from.sender = subst (λ y. (w.writers y ≡ true) ⊎ IsLate plan group (path plan world group) w.at y) (sym e') b in
              let c : Covers world group v (group_point_of (world.clients v).groups group) from.contents =
              report_covers group there v w.at (group_point_of (world.clients v).groups group) one (omega arith) w.writers w.writes w.acked (label later read.at) from.sender from.contents kept.0 below b' in
              (from, j, sound.reports group (label later read.at) from.sender from.contents kept.0, Covers-weaker world group v (group_point_of (world.clients v).groups group) s.lsn from.contents k c, kept.1))
        ]
      where
        lsn_positive' : (log : List Redo) → IsChain log → (t : Redo) → IsIn t log → 0 < t.lsn
        lsn_positive' = Rattle.volume_model.proofs.Logs.lsn_positive

    -- the parent of a later client has the part too
    parent_same : (later : ℕ) → (h : HasParent plan world later) → ((u : ℕ) → u < later → v < u → HasCut world u → Keeps u) → v ≤ h.parent → up_to n (log_of world h.parent) ≡ up_to n (log_of world v)
    parent_same later h earlier l =
        elim (cases_eq v h.parent) [
          | inl e ↦ ap (λ u. up_to n (log_of world u)) (sym e)
          | inr ne ↦ (earlier h.parent h.below (omega arith) h.parent_cut).same
        ]

    -- each record of the part was reported
    reported : (later : ℕ) → v < later → (h : HasParent plan world later) → ((u : ℕ) → u < later → v < u → HasCut world u → Keeps u) → (s : Redo) → IsIn s (log_of world v) → s.lsn ≤ n → IsReported world later s
    reported later below h earlier s i l =
        let (from, j, copy, covers, at_most) = event_result later below h s i l in
        let u : ℕ = last_epoch from.contents.lineage in
        let low : v ≤ u = covers.epoch in
        let high : h.parent < later = h.below in
        elim (cases_eq u v) [
          | inl e ↦ (from, j, covers.records e s i refl (le_refl s.lsn))
          | inr ne ↦ (
              let k : Keeps u = earlier u (omega arith) (omega arith) copy.cut in
              let p : IsIn s (up_to n (log_of world v)) = IsIn-up_to n (log_of world v) s i l in
              let q : IsIn s (up_to n (log_of world u)) = subst (λ z. IsIn s z) (sym k.same) p in
              let b : n ≤ k.origin.cut = k.above in
              (from, j, copy.found s (found_below u copy.cut k.origin s (from_up_to n (log_of world u) s q) (omega arith)) refl))
        ]

    keeps_step : (later : ℕ) → v < later → HasCut world later → (h : HasParent plan world later) → ((u : ℕ) → u < later → v < u → HasCut world u → Keeps u) → Keeps later
    keeps_step later below c h earlier =
        let (from, j, copy, covers, at_most) = event_result later below h r stands (omega arith) in
        let low : v ≤ last_epoch from.contents.lineage = covers.epoch in
        let same : up_to n (log_of world h.parent) ≡ up_to n (log_of world v) = parent_same later h earlier (omega arith) in
        let there : IsIn r (log_of world h.parent) = from_up_to n (log_of world h.parent) r (subst (λ z. IsIn r z) (sym same) (IsIn-up_to n (log_of world v) r stands (omega arith))) in
        let above : r.lsn ≤ h.cut = h.complete r there point (λ s i l.
        let p : IsIn s (up_to n (log_of world h.parent)) = IsIn-up_to n (log_of world h.parent) s i (omega arith) in
        let q : IsIn s (up_to n (log_of world v)) = subst (λ z. IsIn s z) same p in
        reported later below h earlier s (from_up_to n (log_of world v) s q) (omega arith)) in
        record {
          origin = h;
          above = omega arith;
          same = as_parent later n c h (omega arith) ∙ same;
        }

    -- every later client keeps it, by induction over the volume epochs
    keeps : (bound later : ℕ) → later < bound → v < later → HasCut world later → Keeps later
    keeps zero later l below c = absurd (omega arith)
    keeps (suc bound) later l below c =
        elim (sound.logged later c).origin [
          | inl f ↦ absurd (let o : later ≡ 1 = f.one in let p : 1 ≤ v = volume_positive v cut in omega arith)
          | inr h ↦ keeps_step later below c h (λ u a b d. keeps bound u (omega arith) b d)
        ]

    -- so the part is a beginning of the log that it found, and of its log
    in_found : (later : ℕ) → v < later → HasCut world later → IsBeginningOf (up_to n (log_of world v)) (found_of world later)
    in_found later below c =
        let k : Keeps later = keeps (suc later) later (omega arith) below c in
        let h : HasParent plan world later = k.origin in
        let e : up_to n (found_of world later) ≡ up_to n (log_of world v) =
        ap (up_to n) h.found ∙ up_to-up_to n h.cut (log_of world h.parent) k.above ∙ sym (as_parent later n c h k.above) ∙ k.same in
        subst (λ z. IsBeginningOf z (found_of world later)) e (IsBeginningOf-up_to n (found_of world later))

    in_log : (later : ℕ) → v < later → HasCut world later → (s : Redo) → IsIn s (up_to n (log_of world v)) → IsIn s (log_of world later)
    in_log later below c s i =
        let k : Keeps later = keeps (suc later) later (omega arith) below c in
        from_up_to n (log_of world later) s (subst (λ z. IsIn s z) (sym k.same) i)

  -- what it takes that a commit is acknowledged
  record IsCommit (v n : ℕ) : Type 0 where
    cut : HasCut world v
    r : Redo
    stands : IsIn r (log_of world v)
    number : r.lsn ≡ n
    point : r.point ≡ true
    covered : (s : Redo) → IsIn s (log_of world v) → s.lsn ≤ n → s.lsn ≤ group_point_of (world.clients v).groups s.group

  open_cut : (stage : Stage) → is_open stage ≡ true → has_cut stage ≡ true
  open_cut Unborn h = h
  open_cut Reading h = h
  open_cut Installing h = refl
  open_cut Writing h = refl

  commit : (v n : ℕ) → Acknowledges world v n → IsCommit v n
  commit v n h = grind (arith, common_steps, and_parts, any_passes, HasCut, open_cut, leb-true, consistency_point_below-at_most, eqb-true, complete_of-covers)

  one_of : (v u n m : ℕ) (r s : Redo) → v < u → IsCommit v n → IsCommit u m → IsIn r (up_to n (log_of world v)) → IsIn s (up_to m (log_of world u)) → r.lsn ≡ s.lsn → r ≡ s
  one_of v u n m r s h a b i j e =
      same_record (log_of world u) (sound.logged u b.cut).chain r s
      (in_log v a.cut n a.r a.stands a.number a.point a.covered u h b.cut r i)
      (from_up_to m (log_of world u) s j) e

  pub keeps_commits : KeepsCommits world
  keeps_commits = record {
    found_later = λ v later n h a f. (
        let c : IsCommit v n = commit v n a in
        in_found v c.cut n c.r c.stands c.number c.point c.covered later h f.1);
    one_record = λ v u n m r s a b i j e. (
        let c : IsCommit v n = commit v n a in
        let d : IsCommit u m = commit u m b in
        elim (cases_order v u) [
          | inl same ↦ same_record (log_of world v) (sound.logged v c.cut).chain r s (from_up_to n (log_of world v) r i) (from_up_to m (log_of world v) s (subst (λ z. IsIn s (up_to m (log_of world z))) (sym same) j)) e
          | inr apart ↦ elim apart [
            | inl h ↦ one_of v u n m r s h c d i j e
            | inr h ↦ sym (one_of u v m n s r h d c j i (sym e))
          ]
        ]);
  }
