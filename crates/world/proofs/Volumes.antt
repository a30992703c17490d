-- In every run no node has promised, and no Fence names, a volume epoch that wasn't assigned.
use Rattle.std.proofs.Common.{◌≡◌, ℕ, suc, ◌<◌, ◌≤◌, Bool, true, false, not, ◌&&◌, ◌==◌, nat_lt, nat_le, max, List, [], ◌∷◌, Option, Some, None, Result, Ok, Err, length, refl, sym, ap, ◌∙◌, subst, inl, inr, arith}
use Rattle.std.proofs.lemmas.Bool.{eqb-true, not-false}
use Rattle.volume_model.specs.Common.{IsIn, each_below, numbered, Redo, cut_of, log_found, record_at, Lineage, extended, last_epoch, last_start, newest, in_pieces, Plan, IsCertified, has_member, is_named, parent_of, Label, Place, Message, place_in, View, StepTo, Fence, Report, Install, Ack, Page, refuse_if, NodeStep, NodeAnswer, born_node, reaction, hydrated, ClientStep, ClientAnswer, Stage, is_born, label_of, place_of, Unborn, Reading, Installing, Writing, Change, issued, issued_writes, page_asked, record_of, is_last, resent, write_of, cut_client, cut_step, fences, installs, opened, reported, to_install, is_for, later_group, later_in, later_unjoined, reread_group, taken, viewed, with_places, Authority, AuthorityStep, World, Event, advance_step, advanced, after, after_step, assigned, configuration_of, deliver, groups_joined, grown, if_there, of_authority, of_client, of_node, opening, place_now, places_now, refreshed, run, take, Assign, Advance, Refresh, Grow, Issue, Take, Cut, Open, Resend, Read, Deliver, Hydrate, Restart, Offer, TheAuthority}
use Rattle.volume_model.specs.Lineage.{found_in}
use Rattle.volume_model.specs.Node.{Node}
use Rattle.volume_model.specs.Client.{Client}
use Rattle.volume_model.proofs.Basics.{IsIn-added, IsIn-joined, each_below-from, numbered-in}
use Rattle.volume_model.proofs.ClientRelations.{issued-ok}
use Rattle.volume_model.proofs.Frames.{frame}
use Rattle.volume_model.proofs.Invariant.{HasCut, IsMade}
use Rattle.volume_model.proofs.Kept.{IsInstall, IsView, IsWhole}
use Rattle.volume_model.proofs.NodeSteps.{IsGoodStep, delivered_good, hydrated_good, hydrated-ok, offered_good, refuse_if-ok, restarted_good, extension-ok}
use Rattle.volume_model.proofs.Pieces.{in_pieces-from}
use Rattle.volume_model.proofs.Renewed.{IsKeptWorld, renewed, renewed_ready}
use Rattle.volume_model.proofs.Run.{event_kept, opening_kept}
use Rattle.volume_model.proofs.Sound.{born_from_cut}
use Rattle.volume_model.specs.declared.fault.Fault.{Fault}
use Rattle.volume_model.specs.declared.fault.Fault.TheVariants.{AllGrown, EpochsSpent, NoActor, NoGroup, AlreadyDone, NotAddressed, NotInPlan, NotOpen, NotReady, Superseded}
use Rattle.world.proofs.Reactions.{Ok-node, Promises, offer_leaves, reaction_leaves, restart_leaves}
use Rattle.world.proofs.Lost.{Ok-is, IsGood, nodes_by, ready, there_of}

Ok-client : (a b : ClientStep) → ◌≡◌ {A = ClientAnswer} (Ok a) (Ok b) → a ≡ b
Ok-client a b h = cc

-- ---- who makes Fences, and with which volume epoch

-- the message is no Fence, or one of this volume epoch
abbrev IsFenceOf : ℕ → Message → Type 0
IsFenceOf v (Fence to l) = l.volume ≡ v
IsFenceOf v m = Unit {0}

abbrev FencesOf : ℕ → List Message → Type 0
FencesOf v made = (m : Message) → IsIn m made → IsFenceOf v m

module _ (plan : Plan) (v : ℕ) where
  fences_of : (groups : ℕ) (places : ℕ → Place) (chosen : ℕ → Bool) → FencesOf v (fences groups v places chosen)
  fences_of groups places chosen m i =
      let (k, l, e) = each_below-from groups chosen (λ group. Fence group (label_of v places group)) m i in
      subst (IsFenceOf v) (sym e) refl

  installs_of : (groups : ℕ) (places : ℕ → Place) (lineage : Lineage) (found : List Redo) (chosen : ℕ → Bool) → FencesOf v (installs groups v places lineage found chosen)
  installs_of groups places lineage found chosen m i =
      let (list, j, k) = IsIn-joined (each_below groups chosen (λ group. in_pieces (to_install lineage found group) (Install group (label_of v places group)))) m i in
      let (group, l, e) = each_below-from groups chosen (λ group. in_pieces (to_install lineage found group) (Install group (label_of v places group))) list j in
      let (piece, c, is, same) = in_pieces-from (to_install lineage found group) (Install group (label_of v places group)) m (subst (IsIn m) e k) in
      subst (IsFenceOf v) (sym same) tt

  viewed_of : (client : Client) (places : List Place) (stage : Stage) → FencesOf v (viewed plan v client places stage).made
  viewed_of client places Unborn = fences_of (length places) (place_in places) (λ group. true)
  viewed_of client places Reading = fences_of (length places) (place_of (with_places reread_group client.groups places)) (later_in (place_of client.groups) (place_in places))
  viewed_of client places Installing = installs_of (length places) (place_of (with_places later_group client.groups places)) client.lineage client.found (later_in (place_of client.groups) (place_in places))
  viewed_of client places Writing = installs_of (length places) (place_of (with_places later_group client.groups places)) client.lineage [] (later_unjoined client.groups (place_in places))

  writes_of : (places : ℕ → Place) (start : ℕ) (changes : List Change) (log : List Redo) → FencesOf v (issued_writes v places start changes log)
  writes_of places start [] log m i = absurd i
  writes_of places start (change ∷ more) log m (inl e) = subst (IsFenceOf v) (sym e) tt
  writes_of places start (change ∷ more) log m (inr i) = writes_of places start more (record_of v start log change (is_last more) ∷ log) m i

  abbrev StepFences : ClientStep → Type 0
  StepFences step = FencesOf v step.made

  issued_of : (client : Client) (changes : List Change) (step : ClientStep) → issued plan v client changes ≡ Ok step → StepFences step
  issued_of client changes step h =
      let (open_now, transaction, is) = issued-ok plan v client changes step h in
      subst StepFences is (writes_of (place_of client.groups) (last_start client.lineage) changes client.log)

  one_of : (m : Message) → IsFenceOf v m → FencesOf v (m ∷ [])
  one_of m h k (inl e) = subst (IsFenceOf v) (sym e) h
  one_of m h k (inr none) = absurd none

  resent_of : (client : Client) (lsn : ℕ) (step : ClientStep) → resent v client lsn ≡ Ok step → StepFences step
  resent_of client lsn step h =
      let h1 = (refuse_if-ok _ NoActor _ step h).1 in
      let h2 = (refuse_if-ok _ NotOpen _ step h1).1 in
      go (record_at client.log lsn) h2
    where
      go : (found : Option Redo) → write_of v client found ≡ Ok step → StepFences step
      go None h = cc
      go (Some r) h = subst StepFences (Ok-client _ step h) (one_of _ tt)

  asked_of : (client : Client) (group block : ℕ) (step : ClientStep) → page_asked v client group block ≡ Ok step → StepFences step
  asked_of client group block step h =
      let h1 = (refuse_if-ok _ NoActor _ step h).1 in
      let h2 = (refuse_if-ok _ NotOpen _ step h1).1 in
      let h3 = (refuse_if-ok _ NoGroup _ step h2).1 in
      subst StepFences (Ok-client _ step h3) (one_of _ tt)

  cut_of_client : (client : Client) (step : ClientStep) → cut_client plan v client ≡ Ok step → StepFences step
  cut_of_client client step h =
      let h1 = (refuse_if-ok _ NoActor _ step h).1 in
      let h2 = (refuse_if-ok _ AlreadyDone _ step h1).1 in
      let h3 = (refuse_if-ok _ NotReady _ step h2).1 in
      let parent : Lineage = newest (reported client) in
      let records : List Redo = found_in (newest (reported client)) (reported client) in
      let h4 = extension-ok parent v (cut_of records) plan.lal (λ lineage. Ok (cut_step v client (log_found records) lineage)) step h3 in
      subst StepFences (Ok-client (cut_step v client (log_found records) (extended parent v (cut_of records) plan.lal)) step h4)
      (installs_of (length client.groups) (place_of client.groups) (extended parent v (cut_of records) plan.lal) (log_found records) (λ group. true))

  opened_of : (client : Client) (step : ClientStep) → opened plan client ≡ Ok step → StepFences step
  opened_of client step h =
      let h1 = (refuse_if-ok _ NoActor _ step h).1 in
      let h2 = (refuse_if-ok _ AlreadyDone _ step h1).1 in
      let h3 = (refuse_if-ok _ NotReady _ step h2).1 in
      subst StepFences (Ok-client _ step h3) (λ m i. absurd i)

  -- who takes a message makes no Fence of another volume epoch, and has taken a View if it makes a message
  abbrev Takes : Message → ClientStep → Type 0
  Takes message step = StepFences step × ((m : Message) → IsIn m step.made → (places : List Place) × (message ≡ View v places))

  silent : (message : Message) (made step : ClientStep) → made.made ≡ [] → ◌≡◌ {A = ClientAnswer} (Ok made) (Ok step) → Takes message step
  silent message made step none h =
      let nothing : (m : Message) → IsIn m made.made → ⊥ = λ m i. subst (λ (ms : List Message). IsIn m ms) none i in
      subst (Takes message) (Ok-client made step h) (λ m i. absurd (nothing m i), λ m i. absurd (nothing m i))

  taken_of : (client : Client) (message : Message) (step : ClientStep) → taken plan v client message ≡ Ok step → Takes message step
  taken_of client (View u places) step h =
      let (a, h1) = refuse_if-ok (not (is_for v plan.groups (View u places))) NotAddressed _ step h in
      let h2 = (refuse_if-ok _ NotInPlan _ step h1).1 in
      (subst StepFences (Ok-client _ step h2) (viewed_of client places client.stage), λ m i. (places, ap (λ w. View w places) (eqb-true u v (not-false _ a))))
  taken_of client (Report to l x q) step h = silent (Report to l x q) _ step refl (refuse_if-ok _ NoActor _ step (refuse_if-ok _ NotAddressed _ step h).1).1
  taken_of client (Ack to l x s) step h = silent (Ack to l x s) _ step refl (refuse_if-ok _ NoActor _ step (refuse_if-ok _ NotAddressed _ step h).1).1
  taken_of client (Page to l x block point bytes) step h = silent (Page to l x block point bytes) _ step refl (refuse_if-ok _ NoActor _ step (refuse_if-ok _ NotAddressed _ step h).1).1
  taken_of client m step h = cc

-- ---- in every run

pub record VolumesKnown (world : World) : Type 0 where
  pub nodes : (g x : ℕ) → (world.nodes g x).volume ≤ world.authority.last_volume
  pub fences : (to : ℕ) (l : Label) → IsMade world (Fence to l) → l.volume ≤ world.authority.last_volume

module _ (plan : Plan) (certified : IsCertified plan) (world : World) (known : IsKeptWorld plan world) (volumes : VolumesKnown world) where
  abbrev last : ℕ
  last = world.authority.last_volume

  cut_known : (v : ℕ) → HasCut world v → v ≤ last
  cut_known v cut = ((known.kept.clients v).born (born_from_cut (world.clients v).stage cut)).known

  module _ (group x : ℕ) where
    abbrev node : Node
    node = world.nodes group x

    abbrev IsKnown : NodeStep → Type 0
    IsKnown step = step.node.volume ≤ last

    same_known : (step : NodeStep) → step.node.volume ≡ node.volume → IsKnown step
    same_known step same = let old : node.volume ≤ last = volumes.nodes group x in omega (arith, same, old)

    -- the volume epoch that a message promises is known
    promised_known : (m : Message) → IsMade world m → (volume : ℕ) → Promises m volume → volume ≤ last
    promised_known (Fence to l) made volume is =
        let promised : volume ≡ l.volume = is in
        let below : l.volume ≤ last = volumes.fences to l made in
        omega arith
    promised_known (Install to l piece c) made volume is =
        let promised : volume ≡ l.volume = is in
        let install : IsInstall world to l piece c = known.kept.messages (Install to l piece c) made in
        let below : l.volume ≤ last = cut_known l.volume install.cut in
        omega arith
    promised_known m made volume none = absurd none

    reaction_known : (m : Message) → IsMade world m → (step : NodeStep) → reaction plan group x node m ≡ Ok step → IsKnown step
    reaction_known m made step h = elim (reaction_leaves plan group x node m step h).1 [
      | inl same ↦ same_known step same
      | inr promised ↦ promised_known m made step.node.volume promised
    ]

    deliver_known : (number : ℕ) (step : NodeStep) → deliver plan group x node (numbered world.messages number) ≡ Ok step → IsKnown step
    deliver_known number step h = go (numbered world.messages number) refl h
      where
        go : (found : Option Message) → numbered world.messages number ≡ found → deliver plan group x node found ≡ Ok step → IsKnown step
        go None e h = cc
        go (Some m) e h = reaction_known m (numbered-in world.messages number m e) step h

    hydrate_known : group < plan.groups → (step : NodeStep) → hydrated plan group x node ≡ Ok step → IsKnown step
    hydrate_known there step h =
        let (un, own, reads, is) = hydrated-ok plan group x node step h in
        let good : IsGoodStep plan (renewed known.held world) world group x step = hydrated_good plan certified world (ready plan certified world known) (renewed_ready known.held world) group x there step h in
        let whole : step.node.whole ≡ true = ap (λ (s : NodeStep). s.node.whole) is in
        let copy : IsWhole plan (renewed known.held world) world group x step.node = good.node.whole whole in
        let below : last_epoch step.node.contents.lineage ≤ last = cut_known _ copy.copy.cut in
        let same : step.node.volume ≡ max node.volume (last_epoch step.node.contents.lineage) = ap (λ (s : NodeStep). s.node.volume) is ∙ ap (λ (s : NodeStep). max node.volume (last_epoch s.node.contents.lineage)) (sym is) in
        let old : node.volume ≤ last = volumes.nodes group x in
        omega arith

  abbrev Known : ℕ → ℕ → Node → Type 0
  Known g y node = node.volume ≤ last

  -- no node promises a volume epoch above the last one
  nodes_known : (event : Event) (g y : ℕ) → ((after plan world event).nodes g y).volume ≤ last
  nodes_known =
      nodes_by plan certified world known Known volumes.nodes
      (λ g x there number step h. deliver_known g x number step h)
      (λ g x there named step h. hydrate_known g x there step h)
      (λ g x there step h. same_known g x step (restart_leaves plan g x (world.nodes g x) step h).1)
      (λ g x there lsn step h. same_known g x step (offer_leaves plan g x (world.nodes g x) lsn step h).2)

  -- nor does a Fence name one
  abbrev FencesKnown : World → Type 0
  FencesKnown later = (to : ℕ) (l : Label) → IsMade later (Fence to l) → l.volume ≤ last

  by_authority : (answer : Result AuthorityStep Fault) → ((step : AuthorityStep) → answer ≡ Ok step → (to : ℕ) (l : Label) → IsIn (Fence to l) step.made → ⊥) → FencesKnown (after_step world (of_authority world answer))
  by_authority (Err fault) none to l i = volumes.fences to l i
  by_authority (Ok step) none to l i =
      elim (IsIn-added step.made world.messages (Fence to l) i) [ inl new ↦ absurd (none step refl to l new) | inr old ↦ volumes.fences to l old ]

  by_client : (v : ℕ) (answer : ClientAnswer) → ((step : ClientStep) → answer ≡ Ok step → (to : ℕ) (l : Label) → IsIn (Fence to l) step.made → l.volume ≤ last) → FencesKnown (after_step world (of_client world v answer))
  by_client v (Err fault) few to l i = volumes.fences to l i
  by_client v (Ok step) few to l i =
      elim (IsIn-added step.made world.messages (Fence to l) i) [ inl new ↦ few step refl to l new | inr old ↦ volumes.fences to l old ]

  by_node : (group x : ℕ) (answer : NodeAnswer) → (group < plan.groups → (step : NodeStep) → answer ≡ Ok step → IsGood plan certified world known group x step) → FencesKnown (after_step world (of_node world group x (if_there plan (groups_joined world.authority) group x answer)))
  by_node group x answer good to l i = go (nat_lt group (groups_joined world.authority) && is_named plan group x) refl answer good i
    where
      go : (is : Bool) → (nat_lt group (groups_joined world.authority) && is_named plan group x) ≡ is → (answer : NodeAnswer) → (group < plan.groups → (step : NodeStep) → answer ≡ Ok step → IsGood plan certified world known group x step)
          → IsMade (after_step world (of_node world group x (refuse_if (not is) NoActor answer))) (Fence to l) → l.volume ≤ last
      go false e answer good i = volumes.fences to l i
      go true e (Err fault) good i = volumes.fences to l i
      go true e (Ok step) good i =
          elim (IsIn-added step.made world.messages (Fence to l) i) [
            | inl new ↦ absurd ((good (there_of plan certified world known (groups_joined world.authority) group x e) step refl).says (Fence to l) new)
            | inr old ↦ volumes.fences to l old
          ]

  module _ (v : ℕ) where
    born_known : (rest : ClientAnswer) (step : ClientStep) → refuse_if (not (is_born (world.clients v).stage)) NoActor rest ≡ Ok step → v ≤ last
    born_known rest step h = ((known.kept.clients v).born (not-false _ (refuse_if-ok (not (is_born (world.clients v).stage)) NoActor rest step h).0)).known

    few : (step : ClientStep) → v ≤ last → StepFences plan v step → (to : ℕ) (l : Label) → IsIn (Fence to l) step.made → l.volume ≤ last
    few step below of to l i = (let e : l.volume ≡ v = of (Fence to l) i in omega arith)

    take_few : (found : Option Message) → ((m : Message) → found ≡ Some m → IsMade world m) → (step : ClientStep) → take plan v (world.clients v) found ≡ Ok step → (to : ℕ) (l : Label) → IsIn (Fence to l) step.made → l.volume ≤ last
    take_few None made step h to l i = cc
    take_few (Some m) made step h to l i =
        let (fences, from) = taken_of plan v (world.clients v) m step h in
        let (places, is) = from (Fence to l) i in
        let view : IsView plan world v places = known.kept.messages (View v places) (subst (IsMade world) is (made m refl)) in
        let below : v ≤ last = view.known in
        few step below fences to l i

  one_none : (m : Message) → ((to : ℕ) (l : Label) → Fence to l ≡ m → ⊥) → (to : ℕ) (l : Label) → IsIn (Fence to l) (m ∷ []) → ⊥
  one_none m apart to l (inl e) = apart to l e
  one_none m apart to l (inr none) = none

  fences_known : (event : Event) → FencesKnown (after plan world event)
  fences_known Assign = by_authority (assigned plan world.authority) (λ s h to l i.
      let made = ap (λ (z : AuthorityStep). z.made) (Ok-is _ s (refuse_if-ok (nat_le 4294967295 world.authority.last_volume) EpochsSpent _ s h).1) in
      one_none (View (suc world.authority.last_volume) (places_now plan world.authority)) (λ to l e. cc) to l (subst (λ z. IsIn (Fence to l) z) (sym made) i))
  fences_known (Advance group c) = by_authority (advanced plan world.authority group c) (λ s h to l i.
      let h1 = (refuse_if-ok (not (nat_lt group (groups_joined world.authority))) NoGroup _ s h).1 in
      let h2 = (refuse_if-ok (not (nat_lt 0 c && (nat_lt c (plan.configurations group) && parent_of plan group c == configuration_of world.authority group))) NotInPlan _ s h1).1 in
      let made = ap (λ (z : AuthorityStep). z.made) (Ok-is (advance_step plan world.authority group c) s h2) in
      one_none (StepTo group (place_now plan (advance_step plan world.authority group c).authority group)) (λ to l e. cc) to l (subst (λ z. IsIn (Fence to l) z) (sym made) i))
  fences_known (Refresh volume) = by_authority (refreshed plan world.authority volume) (λ s h to l i.
      let made = ap (λ (z : AuthorityStep). z.made) (Ok-is _ s (refuse_if-ok (not (volume == world.authority.last_volume)) Superseded _ s h).1) in
      one_none (View volume (places_now plan world.authority)) (λ to l e. cc) to l (subst (λ z. IsIn (Fence to l) z) (sym made) i))
  fences_known Grow = by_authority (grown plan world.authority) (λ s h to l i.
      let made = ap (λ (z : AuthorityStep). z.made) (Ok-is _ s (refuse_if-ok (not (nat_lt (groups_joined world.authority) plan.groups)) AllGrown _ s h).1) in
      subst (λ z. IsIn (Fence to l) z) (sym made) i)
  fences_known (Issue v changes) = by_client v _ (λ step h. few v step (born_known v _ step h) (issued_of plan v (world.clients v) changes step h))
  fences_known (Take v number) = by_client v _ (λ step h. take_few v (numbered world.messages number) (λ m e. numbered-in world.messages number m e) step h)
  fences_known (Cut v) = by_client v _ (λ step h. few v step (born_known v _ step h) (cut_of_client plan v (world.clients v) step h))
  fences_known (Open v) = by_client v _ (λ step h. few v step (born_known v _ step h) (opened_of plan v (world.clients v) step h))
  fences_known (Resend v lsn) = by_client v _ (λ step h. few v step (born_known v _ step h) (resent_of plan v (world.clients v) lsn step h))
  fences_known (Read v group block) = by_client v _ (λ step h. few v step (born_known v _ step h) (asked_of plan v (world.clients v) group block step h))
  fences_known (Deliver group x number) = by_node group x _ (λ there step h. delivered_good plan certified world (ready plan certified world known) (renewed_ready known.held world) group x there number step h)
  fences_known (Hydrate group x) = by_node group x _ (λ there step h. hydrated_good plan certified world (ready plan certified world known) (renewed_ready known.held world) group x there step h)
  fences_known (Restart group x) = by_node group x _ (λ there step h. subst (λ z. IsGood plan certified world known group x z) (Ok-node _ step h) (restarted_good plan certified world (ready plan certified world known) (renewed_ready known.held world) group x there))
  fences_known (Offer group x lsn) = by_node group x _ (λ there step h. offered_good plan certified world (ready plan certified world known) (renewed_ready known.held world) group x there lsn step h)

  -- the last volume epoch never falls
  last_authority : (answer : Result AuthorityStep Fault) → ((s : AuthorityStep) → answer ≡ Ok s → last ≤ s.authority.last_volume) → last ≤ (after_step world (of_authority world answer)).authority.last_volume
  last_authority (Err fault) h = omega arith
  last_authority (Ok s) h = h s refl

  last_grows : (event : Event) → last ≤ (after plan world event).authority.last_volume
  last_grows Assign = last_authority (assigned plan world.authority) (λ s h.
      let is : suc last ≡ s.authority.last_volume = ap (λ (z : AuthorityStep). z.authority.last_volume) (Ok-is _ s (refuse_if-ok (nat_le 4294967295 world.authority.last_volume) EpochsSpent _ s h).1) in omega arith)
  last_grows (Advance group c) = last_authority (advanced plan world.authority group c) (λ s h.
      let h1 = (refuse_if-ok (not (nat_lt group (groups_joined world.authority))) NoGroup _ s h).1 in
      let h2 = (refuse_if-ok (not (nat_lt 0 c && (nat_lt c (plan.configurations group) && parent_of plan group c == configuration_of world.authority group))) NotInPlan _ s h1).1 in
      let is : last ≡ s.authority.last_volume = ap (λ (z : AuthorityStep). z.authority.last_volume) (Ok-is (advance_step plan world.authority group c) s h2) in omega arith)
  last_grows (Refresh volume) = last_authority (refreshed plan world.authority volume) (λ s h.
      let is : last ≡ s.authority.last_volume = ap (λ (z : AuthorityStep). z.authority.last_volume) (Ok-is _ s (refuse_if-ok (not (volume == world.authority.last_volume)) Superseded _ s h).1) in omega arith)
  last_grows Grow = last_authority (grown plan world.authority) (λ s h.
      let is : last ≡ s.authority.last_volume = ap (λ (z : AuthorityStep). z.authority.last_volume) (Ok-is _ s (refuse_if-ok (not (nat_lt (groups_joined world.authority) plan.groups)) AllGrown _ s h).1) in omega arith)
  last_grows event = let same : last ≡ (after plan world event).authority.last_volume = ap (λ (a : Authority). a.last_volume) (frame plan world event TheAuthority refl) in omega arith

  volumes_on : (event : Event) → VolumesKnown (after plan world event)
  volumes_on event =
      let grows : last ≤ (after plan world event).authority.last_volume = last_grows event in
      record {
        nodes = λ g y. (let b : ((after plan world event).nodes g y).volume ≤ last = nodes_known event g y in omega arith);
        fences = λ to l i. (let b : l.volume ≤ last = fences_known event to l i in omega arith);
      }

module _ (plan : Plan) (certified : IsCertified plan) where
  born_volume : (g x : ℕ) (b : Bool) → has_member (plan.configuration g 0) x ≡ b → (born_node plan g x).volume ≤ 1
  born_volume g x true e = rw e (omega arith)
  born_volume g x false e = rw e (omega arith)

  opening_volumes : VolumesKnown (opening plan)
  opening_volumes = record {
    nodes = λ g x. born_volume g x (has_member (plan.configuration g 0) x) refl;
    fences = λ to l i. absurd i;
  }

  run_volumes : (events : List Event) (world : World) → IsKeptWorld plan world → VolumesKnown world → VolumesKnown (run plan world events)
  run_volumes [] world known volumes = volumes
  run_volumes (event ∷ events) world known volumes =
      run_volumes events (after plan world event) (event_kept plan certified world known.kept event) (volumes_on plan certified world known volumes event)

  pub volumes_known : (events : List Event) → VolumesKnown (run plan (opening plan) events)
  volumes_known events = run_volumes events (opening plan) (opening_kept plan certified) opening_volumes
