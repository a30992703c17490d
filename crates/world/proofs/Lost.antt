-- A group whose whole members can't read it, and whose nodes have all taken its last step, can't be read again.
use Rattle.std.proofs.Common.{◌≡◌, ℕ, zero, suc, ◌+◌, ◌-◌, ◌<◌, ◌≤◌, Bool, true, false, not, ◌&&◌, ◌==◌, nat_lt, nat_le, ◌⊎◌, List, [], ◌∷◌, ◌++◌, Result, Ok, Err, length, length-append, refl, sym, ap, ◌∙◌, subst, inl, inr, arith, slice_set}
use Rattle.std.proofs.lemmas.Bool.{cases_Bool, and_parts, both_ways, eqb-true, ltb-true, not-false}
use Rattle.volume_model.specs.Common.{IsIn, numbered, Members, sat, copied_by, is_complete, Plan, IsCertified, IsStep, epoch_of, has_member, is_fresh, is_named, parent_of, Place, Message, place_in, View, Report, CopyReport, refuse_if, NodeStep, NodeAnswer, hydrated, offered, restarted, senders, ClientStep, ClientAnswer, has_cut, reports_of, Authority, AuthorityStep, World, Event, advance_step, advanced, after, after_step, assigned, configuration_of, deliver, groups_joined, grown, if_there, of_authority, of_client, of_node, opening, places_now, refreshed, run, Assign, Advance, Refresh, Grow, Issue, Take, Cut, Open, Resend, Read, Deliver, Hydrate, Restart, Offer, Actor}
use Rattle.volume_model.specs.Node.{Node}
use Rattle.volume_model.specs.Client.{Client}
use Rattle.volume_model.proofs.Above.{ancestor}
use Rattle.volume_model.proofs.Added.{epoch_positive}
use Rattle.volume_model.proofs.Basics.{IsIn-added, any_passes, put_at-all}
use Rattle.volume_model.proofs.ClientSteps.{ClientSays, IsGoodMove, issued_good, take_good, cut_good, opened_good, resent_good, asked_good}
use Rattle.volume_model.proofs.FormulaLaws.{sat_more}
use Rattle.volume_model.proofs.Frames.{frame}
use Rattle.volume_model.proofs.Groups.{index-zero_more, length-slice_set, set-all}
use Rattle.volume_model.proofs.Invariant.{Held, IsInViews, IsMade, epoch_now, path}
use Rattle.volume_model.proofs.Kept.{HasRead, IsCutClient, IsKept, IsView, NodeKept}
use Rattle.volume_model.proofs.Line.{IsLate, IsLine, late_from_fresh}
use Rattle.volume_model.proofs.NodeSteps.{IsGoodStep, NodeSays, delivered_good, hydrated_good, hydrated-ok, offered_good, put_at-same, refuse_if-ok, restarted_good}
use Rattle.volume_model.proofs.Pieces.{complete_some}
use Rattle.volume_model.proofs.Renewed.{IsKeptWorld, renewed, renewed_kept, renewed_ready}
use Rattle.volume_model.proofs.Run.{event_kept, opening_kept, run_kept}
use Rattle.volume_model.proofs.Sound.{is_sound}
use Rattle.volume_model.proofs.Views.{length-places_now, place_in-places_now}
use Rattle.volume_model.specs.declared.fault.Fault.{Fault}
use Rattle.volume_model.specs.declared.fault.Fault.TheVariants.{AllGrown, EpochsSpent, NoActor, NoGroup, NotInPlan, Superseded}
use Rattle.world.specs.Lost.{EarlyStepsLose, HaveTakenStep, IsLost}
use Rattle.world.specs.Waiting.{whole_in}
use Rattle.world.proofs.Reactions.{Ok-node, deliver_leaves, offer_leaves, restart_leaves}

pub Ok-is : (a b : AuthorityStep) → ◌≡◌ {A = Result AuthorityStep Fault} (Ok a) (Ok b) → a ≡ b
Ok-is a b h = cc

-- ---- what a step may say: a View of the places, or what a whole node says of itself

abbrev MaySay : Plan → World → World → Message → Type 0
MaySay plan world later (View v places) = places ≡ places_now plan world.authority
MaySay plan world later (Report to l x q) = (later.nodes to x).whole ≡ true
MaySay plan world later (CopyReport to f x s p c) = (later.nodes to x).whole ≡ true
MaySay plan world later m = Unit {0}

-- each message of the later world was there before, or may be said
abbrev AreSaid : Plan → World → World → Type 0
AreSaid plan world later = (m : Message) → IsMade later m → IsMade world m ⊎ MaySay plan world later m

module _ (plan : Plan) (certified : IsCertified plan) (world : World) (known : IsKeptWorld plan world) where
  pub ready : IsKept plan (renewed known.held world) world
  ready = renewed_kept plan world known.kept

  by_client : (later : World) (v : ℕ) (client : Client) (m : Message) → ClientSays v client m → MaySay plan world later m
  by_client later v client (View u places) h = absurd h
  by_client later v client (Report to l x q) h = absurd h
  by_client later v client (CopyReport to f x s p c) h = absurd h
  by_client later v client m h = tt

  pub client_said : (v : ℕ) (answer : ClientAnswer) → ((step : ClientStep) → answer ≡ Ok step → IsGoodMove plan world v step) → AreSaid plan world (after_step world (of_client world v answer))
  client_said v (Err fault) good m i = inl i
  client_said v (Ok step) good m i =
      elim (IsIn-added step.made world.messages m i) [
        | inl new ↦ inr (by_client (after_step world (of_client world v (Ok step))) v step.client m ((good step refl).says m new))
        | inr old ↦ inl old
      ]

  by_node : (held : Held) (group x : ℕ) (step : NodeStep) (m : Message) → NodeSays held world group x step.node m → MaySay plan world (after_step world (of_node world group x (Ok step))) m
  by_node held group x step (Report to l from q) h =
      rw (h.0, h.1) (ap (λ n. n.whole) (put_at-same world.nodes group x step.node) ∙ h.2)
  by_node held group x step (CopyReport to f from s p c) h =
      rw (h.0, h.1) (ap (λ n. n.whole) (put_at-same world.nodes group x step.node) ∙ h.2)
  by_node held group x step (View v places) h = absurd h
  by_node held group x step m h = tt

  pub there_of : (joined group x : ℕ) → (nat_lt group joined && is_named plan group x) ≡ true → group < plan.groups
  there_of joined group x e = ltb-true group plan.groups (and_parts (nat_lt group plan.groups) _ (and_parts (nat_lt group joined) (is_named plan group x) e).1).0

  abbrev pub IsGood : ℕ → ℕ → NodeStep → Type 0
  IsGood group x step = IsGoodStep plan (renewed known.held world) world group x step

  pub node_said : (joined group x : ℕ) (answer : NodeAnswer) → (group < plan.groups → (step : NodeStep) → answer ≡ Ok step → IsGood group x step) → AreSaid plan world (after_step world (of_node world group x (if_there plan joined group x answer)))
  node_said joined group x answer good = go (nat_lt group joined && is_named plan group x) refl answer good
    where
      go : (is : Bool) → (nat_lt group joined && is_named plan group x) ≡ is → (answer : NodeAnswer) → (group < plan.groups → (step : NodeStep) → answer ≡ Ok step → IsGood group x step) → AreSaid plan world (after_step world (of_node world group x (refuse_if (not is) NoActor answer)))
      go false e answer good m i = inl i
      go true e (Err fault) good m i = inl i
      go true e (Ok step) good m i =
          elim (IsIn-added step.made world.messages m i) [
            | inl new ↦ inr (by_node (renewed known.held world) group x step m ((good (there_of joined group x e) step refl).says m new))
            | inr old ↦ inl old
          ]

  abbrev SaysPlaces : AuthorityStep → Type 0
  SaysPlaces step = (m : Message) → IsIn m step.made → MaySay plan world (after_step world (of_authority world (Ok step))) m

  authority_said : (answer : Result AuthorityStep Fault) → ((step : AuthorityStep) → answer ≡ Ok step → SaysPlaces step) → AreSaid plan world (after_step world (of_authority world answer))
  authority_said (Err fault) good m i = inl i
  authority_said (Ok step) good m i =
      elim (IsIn-added step.made world.messages m i) [
        | inl new ↦ inr (good step refl m new)
        | inr old ↦ inl old
      ]

  one_view : (v : ℕ) (authority : Authority) → SaysPlaces (record { made = View v (places_now plan world.authority) ∷ []; authority = authority })
  one_view v authority m (inl e) = subst (λ z. MaySay plan world (after_step world (of_authority world (Ok (record { made = View v (places_now plan world.authority) ∷ []; authority = authority })))) z) (sym e) refl
  one_view v authority m (inr none) = absurd none

  one_step : (group c : ℕ) → SaysPlaces (advance_step plan world.authority group c)
  one_step group c m (inl e) = subst (λ z. MaySay plan world (after_step world (of_authority world (Ok (advance_step plan world.authority group c)))) z) (sym e) tt
  one_step group c m (inr none) = absurd none

  -- the messages after an event
  pub event_said : (event : Event) → AreSaid plan world (after plan world event)
  event_said Assign = authority_said (assigned plan world.authority) (λ s h.
      subst SaysPlaces (Ok-is _ s (refuse_if-ok (nat_le 4294967295 world.authority.last_volume) EpochsSpent _ s h).1)
      (one_view (suc world.authority.last_volume) (record world.authority { last_volume = suc world.authority.last_volume })))
  event_said (Advance group c) = authority_said (advanced plan world.authority group c) (λ s h.
      let h1 = (refuse_if-ok (not (nat_lt group (groups_joined world.authority))) NoGroup _ s h).1 in
      let h2 = (refuse_if-ok (not (nat_lt 0 c && (nat_lt c (plan.configurations group) && parent_of plan group c == configuration_of world.authority group))) NotInPlan _ s h1).1 in
      subst SaysPlaces (Ok-is _ s h2) (one_step group c))
  event_said (Refresh volume) = authority_said (refreshed plan world.authority volume) (λ s h.
      subst SaysPlaces (Ok-is _ s (refuse_if-ok (not (volume == world.authority.last_volume)) Superseded _ s h).1) (one_view volume world.authority))
  event_said Grow = authority_said (grown plan world.authority) (λ s h.
      subst SaysPlaces (Ok-is _ s (refuse_if-ok (not (nat_lt (groups_joined world.authority) plan.groups)) AllGrown _ s h).1) (λ m i. absurd i))
  event_said (Issue v changes) = client_said v _ (issued_good plan certified world known.kept v changes)
  event_said (Take v number) = client_said v _ (take_good plan certified world known.kept v number)
  event_said (Cut v) = client_said v _ (cut_good plan certified world known.kept v)
  event_said (Open v) = client_said v _ (opened_good plan certified world known.kept v)
  event_said (Resend v lsn) = client_said v _ (resent_good plan certified world known.kept v lsn)
  event_said (Read v group block) = client_said v _ (asked_good plan certified world known.kept v group block)
  event_said (Deliver group x number) = node_said _ group x _ (λ there step h. delivered_good plan certified world ready (renewed_ready known.held world) group x there number step h)
  event_said (Hydrate group x) = node_said _ group x _ (λ there step h. hydrated_good plan certified world ready (renewed_ready known.held world) group x there step h)
  event_said (Restart group x) = node_said _ group x _ (λ there step h. subst (λ z. IsGood group x z) (Ok-node _ step h) (restarted_good plan certified world ready (renewed_ready known.held world) group x there))
  event_said (Offer group x lsn) = node_said _ group x _ (λ there step h. offered_good plan certified world ready (renewed_ready known.held world) group x there lsn step h)

  -- ---- what a step does to the nodes

  node_on : (Keeps : ℕ → ℕ → Node → Type 0) → ((g y : ℕ) → Keeps g y (world.nodes g y)) → (joined group x : ℕ) (answer : NodeAnswer)
      → (group < plan.groups → is_named plan group x ≡ true → (step : NodeStep) → answer ≡ Ok step → Keeps group x step.node)
      → (g y : ℕ) → Keeps g y ((after_step world (of_node world group x (if_there plan joined group x answer))).nodes g y)
  node_on Keeps old joined group x answer new = go (nat_lt group joined && is_named plan group x) refl answer new
    where
      go : (is : Bool) → (nat_lt group joined && is_named plan group x) ≡ is → (answer : NodeAnswer)
          → (group < plan.groups → is_named plan group x ≡ true → (step : NodeStep) → answer ≡ Ok step → Keeps group x step.node)
          → (g y : ℕ) → Keeps g y ((after_step world (of_node world group x (refuse_if (not is) NoActor answer))).nodes g y)
      go false e answer new = old
      go true e (Err fault) new = old
      go true e (Ok step) new =
          put_at-all Keeps world.nodes group x step.node (new (there_of joined group x e) (and_parts (nat_lt group joined) (is_named plan group x) e).1 step refl) old

  -- what is so of each node is so after the event, if each step of a node leaves it so
  pub nodes_by : (Keeps : ℕ → ℕ → Node → Type 0) → ((g y : ℕ) → Keeps g y (world.nodes g y))
      → ((g x : ℕ) → g < plan.groups → (number : ℕ) (step : NodeStep) → deliver plan g x (world.nodes g x) (numbered world.messages number) ≡ Ok step → Keeps g x step.node)
      → ((g x : ℕ) → g < plan.groups → is_named plan g x ≡ true → (step : NodeStep) → hydrated plan g x (world.nodes g x) ≡ Ok step → Keeps g x step.node)
      → ((g x : ℕ) → g < plan.groups → (step : NodeStep) → ◌≡◌ {A = NodeAnswer} (Ok (record { made = []; node = restarted (world.nodes g x) })) (Ok step) → Keeps g x step.node)
      → ((g x : ℕ) → g < plan.groups → (lsn : ℕ) (step : NodeStep) → offered g (world.nodes g x) lsn ≡ Ok step → Keeps g x step.node)
      → (event : Event) → (g y : ℕ) → Keeps g y ((after plan world event).nodes g y)
  nodes_by Keeps old delivers hydrates restarts offers (Deliver g x number) = node_on Keeps old _ g x _ (λ there named. delivers g x there number)
  nodes_by Keeps old delivers hydrates restarts offers (Hydrate g x) = node_on Keeps old _ g x _ (hydrates g x)
  nodes_by Keeps old delivers hydrates restarts offers (Restart g x) = node_on Keeps old _ g x _ (λ there named. restarts g x there)
  nodes_by Keeps old delivers hydrates restarts offers (Offer g x lsn) = node_on Keeps old _ g x _ (λ there named. offers g x there lsn)
  nodes_by Keeps old delivers hydrates restarts offers event = λ g y. subst (Keeps g y) (frame plan world event (Actor.Node g y) refl) (old g y)

  -- What is so of each node is so after the event, if a node that hydrates has it, and one that does something else and so is whole as before at no earlier
  -- membership epoch.
  pub nodes_on : (Keeps : ℕ → ℕ → Node → Type 0) → ((g y : ℕ) → Keeps g y (world.nodes g y))
      → ((g y : ℕ) (node : Node) → Keeps g y (world.nodes g y) → node.whole ≡ (world.nodes g y).whole → (world.nodes g y).place.epoch ≤ node.place.epoch → Keeps g y node)
      → ((g y : ℕ) → g < plan.groups → is_named plan g y ≡ true → (step : NodeStep) → hydrated plan g y (world.nodes g y) ≡ Ok step → Keeps g y step.node)
      → (event : Event) → (g y : ℕ) → Keeps g y ((after plan world event).nodes g y)
  nodes_on Keeps old same fresh =
      nodes_by Keeps old
      (λ g x there number step h. same g x step.node (old g x) (deliver_leaves plan g x (world.nodes g x) (numbered world.messages number) step h).whole (delivered_good plan certified world ready (renewed_ready known.held world) g x there number step h).grows.epoch)
      fresh
      (λ g x there step h. same g x step.node (old g x) (restart_leaves plan g x (world.nodes g x) step h).0.whole (subst (λ z. IsGood g x z) (Ok-node _ step h) (restarted_good plan certified world ready (renewed_ready known.held world) g x there)).grows.epoch)
      (λ g x there lsn step h. same g x step.node (old g x) (offer_leaves plan g x (world.nodes g x) lsn step h).1.whole (offered_good plan certified world ready (renewed_ready known.held world) g x there lsn step h).grows.epoch)

-- ---- in every run, who reports or sends a copy is whole

abbrev FromWhole : World → Message → Type 0
FromWhole world (Report to l x q) = (world.nodes to x).whole ≡ true
FromWhole world (CopyReport to f x s p c) = (world.nodes to x).whole ≡ true
FromWhole world m = Unit {0}

abbrev AllFromWhole : World → Type 0
AllFromWhole world = (m : Message) → IsMade world m → FromWhole world m

may_from_whole : (plan : Plan) (world later : World) (m : Message) → MaySay plan world later m → FromWhole later m
may_from_whole plan world later (Report to l x q) h = h
may_from_whole plan world later (CopyReport to f x s p c) h = h
may_from_whole plan world later m h = tt

from_whole_later : (world later : World) → ((g y : ℕ) → (world.nodes g y).whole ≡ true → (later.nodes g y).whole ≡ true) → (m : Message) → FromWhole world m → FromWhole later m
from_whole_later world later grows (Report to l x q) h = grows to x h
from_whole_later world later grows (CopyReport to f x s p c) h = grows to x h
from_whole_later world later grows m h = tt

module _ (plan : Plan) (certified : IsCertified plan) where
  whole_on : (world : World) → IsKeptWorld plan world → (event : Event) (g y : ℕ) → (world.nodes g y).whole ≡ true → ((after plan world event).nodes g y).whole ≡ true
  whole_on world known event =
      nodes_on plan certified world known (λ g y node. (world.nodes g y).whole ≡ true → node.whole ≡ true) (λ g y h. h)
      (λ g y node k same l h. same ∙ h)
      (λ g y there named step h w. let (un, own, reads, is) = hydrated-ok plan g y (world.nodes g y) step h in absurd (both_ways _ un w))
      event

  from_whole_on : (world : World) → IsKeptWorld plan world → (event : Event) → AllFromWhole world → AllFromWhole (after plan world event)
  from_whole_on world known event all m i =
      elim (event_said plan certified world known event m i) [
        | inl old ↦ from_whole_later world (after plan world event) (whole_on world known event) m (all m old)
        | inr new ↦ may_from_whole plan world (after plan world event) m new
      ]

  from_whole : (events : List Event) (world : World) → IsKeptWorld plan world → AllFromWhole world → AllFromWhole (run plan world events)
  from_whole [] world known all = all
  from_whole (event ∷ events) world known all =
      from_whole events (after plan world event) (event_kept plan certified world known.kept event) (from_whole_on world known event all)

  opening_from_whole : AllFromWhole (opening plan)
  opening_from_whole m i = absurd i

-- ---- a volume that is lost

module _ (plan : Plan) (certified : IsCertified plan) (g : ℕ) (there : g < plan.groups) (world : World) (known : IsKeptWorld plan world)
    (unread : sat (plan.configuration g (configuration_of world.authority g)).read (whole_in world g) ≡ false) where
  -- the group's membership epoch in the first world
  abbrev epoch : ℕ
  epoch = epoch_now plan world g

  epoch_there : 1 ≤ epoch
  epoch_there = epoch_positive plan certified g (configuration_of world.authority g) there (known.kept.authority.there g there)

  -- the group is at that epoch or a later one, which its configurations lead to
  record IsPast (configuration : ℕ) : Type 0 where
    reached : epoch ≤ epoch_of plan g configuration
    same : (i : ℕ) → 1 ≤ i → i ≤ epoch → ancestor plan g (epoch_of plan g configuration - i) configuration ≡ path plan world g i

  IsPast-first : IsPast (configuration_of world.authority g)
  IsPast-first = record { reached = omega arith; same = λ i l h. refl }

  -- a message of a recovery of a later volume epoch, or of a node of the group
  abbrev SaysLost : Message → Type 0
  SaysLost (View v places) = world.authority.last_volume < v → (g < length places) × (epoch ≤ (place_in places g).epoch)
  SaysLost (Report to l x q) = to ≡ g → whole_in world g x ≡ true
  SaysLost (CopyReport to f x s p c) = to ≡ g → whole_in world g x ≡ true
  SaysLost m = Unit {0}

  -- what stays so of a node: in the group, nobody else is whole, and each named node is at that epoch or a later one
  record IsStuck (group x : ℕ) (node : Node) : Type 0 where
    whole : group ≡ g → node.whole ≡ true → whole_in world g x ≡ true
    taken : group ≡ g → is_named plan g x ≡ true → epoch ≤ node.place.epoch

  -- what stays so of a world
  record StaysLost (later : World) : Type 0 where
    in_run : IsKeptWorld plan later
    joined : g < groups_joined later.authority
    past : IsPast (configuration_of later.authority g)
    nodes : (group x : ℕ) → IsStuck group x (later.nodes group x)
    said : (m : Message) → IsMade later m → SaysLost m

  module _ (later : World) (lost : StaysLost later) where
    line : IsLine plan g (path plan later g) (epoch_now plan later g)
    line = (is_sound plan certified later lost.in_run.kept).line g there

    -- a member that was whole isn't fresh at a later epoch
    not_late : (x : ℕ) → whole_in world g x ≡ true → IsLate plan g (path plan later g) epoch x → ⊥
    not_late x w late =
        elim (((known.kept.nodes g x there).whole w).sourced) [
          | inl root ↦ (
              let far : has_member (plan.configuration g (path plan later g 1)) x ≡ false = late 1 (omega arith) epoch_there in
              let near : has_member (plan.configuration g 0) x ≡ false = subst (λ c. has_member (plan.configuration g c) x ≡ false) line.root far in
              both_ways _ near root)
          | inr h ↦ (
              let far : has_member (plan.configuration g (path plan later g h.at)) x ≡ false = late h.at h.positive h.there in
              let near : has_member (plan.configuration g (path plan world g h.at)) x ≡ false = subst (λ c. has_member (plan.configuration g c) x ≡ false) (lost.past.same h.at h.positive h.there) far in
              both_ways _ near h.member)
        ]

    module _ (readers : Members) (whole : (x : ℕ) → readers x ≡ true → whole_in world g x ≡ true) where
      none_fresh : (f : ℕ) → epoch < f → f ≤ epoch_now plan later g → (x : ℕ) → readers x ≡ true → is_fresh plan g (path plan later g f) x ≡ false
      none_fresh f a b x r =
          elim (cases_Bool (is_fresh plan g (path plan later g f) x)) [
            | inl fresh ↦ absurd (not_late x (whole x r) (late_from_fresh plan certified g there (path plan later g) (epoch_now plan later g) line epoch f x epoch_there a b fresh))
            | inr no' ↦ no'
          ]

      -- a read set of a later epoch is one of the first world's epoch
      leads_down : (steps : ℕ) → steps + epoch ≤ epoch_now plan later g → sat (plan.configuration g (path plan later g (steps + epoch))).read readers ≡ true → sat (plan.configuration g (path plan later g epoch)).read readers ≡ true
      leads_down zero l r =
          let z : zero + epoch ≡ epoch = omega arith in
          subst (λ e. sat (plan.configuration g (path plan later g e)).read readers ≡ true) z r
      leads_down (suc steps) l r =
          let s : suc steps + epoch ≡ suc (steps + epoch) = omega arith in
          let r' : sat (plan.configuration g (path plan later g (suc (steps + epoch)))).read readers ≡ true = subst (λ e. sat (plan.configuration g (path plan later g e)).read readers ≡ true) s r in
          let one : 1 ≤ steps + epoch = (let o : 1 ≤ epoch = epoch_there in omega arith) in
          let below : suc (steps + epoch) ≤ epoch_now plan later g = omega arith in
          let is_step : IsStep plan g (path plan later g (suc (steps + epoch))) = certified.step g (path plan later g (suc (steps + epoch))) there (line.there (suc (steps + epoch)) (omega arith) below) (line.child (steps + epoch) one below) in
          let up : parent_of plan g (path plan later g (suc (steps + epoch))) ≡ path plan later g (steps + epoch) = line.parent (steps + epoch) one below in
          let reads : sat (plan.configuration g (parent_of plan g (path plan later g (suc (steps + epoch))))).read readers ≡ true = is_step.reads_on readers r' (none_fresh (suc (steps + epoch)) (omega arith) below) in
          leads_down steps (omega arith) (subst (λ c. sat (plan.configuration g c).read readers ≡ true) up reads)

      -- so they aren't a read set of any later epoch
      not_read : (f : ℕ) → epoch ≤ f → f ≤ epoch_now plan later g → sat (plan.configuration g (path plan later g f)).read readers ≡ true → ⊥
      not_read f a b r =
          let sum : f ≡ (f - epoch) + epoch = omega arith in
          let down : sat (plan.configuration g (path plan later g epoch)).read readers ≡ true = leads_down (f - epoch) (omega arith) (subst (λ e. sat (plan.configuration g (path plan later g e)).read readers ≡ true) sum r) in
          let first : sat (plan.configuration g (path plan world g epoch)).read readers ≡ true = subst (λ c. sat (plan.configuration g c).read readers ≡ true) (lost.past.same epoch epoch_there (omega arith)) down in
          let none : epoch - epoch ≡ 0 = omega arith in
          let now : path plan world g epoch ≡ configuration_of world.authority g = ap (λ n. ancestor plan g n (configuration_of world.authority g)) none in
          both_ways _ unread (sat_more (plan.configuration g (configuration_of world.authority g)).read readers (whole_in world g) whole (subst (λ c. sat (plan.configuration g c).read readers ≡ true) now first))

    -- nobody becomes whole
    not_hydrated : (x : ℕ) → is_named plan g x ≡ true → (step : NodeStep) → hydrated plan g x (later.nodes g x) ≡ Ok step → ⊥
    not_hydrated x named step h =
        let (un, own, reads, is) = hydrated-ok plan g x (later.nodes g x) step h in
        let node : NodeKept plan lost.in_run.held later g x (later.nodes g x) = lost.in_run.kept.nodes g x there in
        let taken : epoch ≤ (later.nodes g x).place.epoch = (lost.nodes g x).taken refl named in
        let whole : (y : ℕ) → copied_by (later.nodes g x).copies y ≡ true → whole_in world g y ≡ true = λ y c. (
        let (copy, i, test) = any_passes (λ copy. copy.sender == y && is_complete copy.pieces) (later.nodes g x).copies c in
        let both : ((copy.sender == y) ≡ true) × (is_complete copy.pieces ≡ true) = and_parts (copy.sender == y) (is_complete copy.pieces) test in
        let (piece, j) = complete_some _ copy.pieces (node.copies copy i) both.1 in
        let said : whole_in world g copy.sender ≡ true = lost.said _ ((node.copies copy i).each piece j) refl in
        subst (λ z. whole_in world g z ≡ true) (eqb-true copy.sender y both.0) said) in
        elim node.place [
          | inl zero' ↦ absurd (let one : 1 ≤ epoch = epoch_there in omega arith)
          | inr place ↦ not_read (copied_by (later.nodes g x).copies) whole (later.nodes g x).place.epoch taken place.there
              (subst (λ c. sat (plan.configuration g c).read (copied_by (later.nodes g x).copies) ≡ true) place.configuration reads)
        ]

    -- no recovery of a later volume epoch has cut
    not_cut : (v : ℕ) → world.authority.last_volume < v → has_cut (later.clients v).stage ≡ true → ⊥
    not_cut v late cut =
        let client : IsCutClient plan later v (later.clients v) = (lost.in_run.kept.clients v).cut cut in
        let first : 1 ≤ world.authority.last_volume = known.kept.authority.positive in
        elim client.origin [
          | inl root ↦ (let one : v ≡ 1 = root.one in absurd (omega arith))
          | inr heir ↦ (
              let named : IsInViews later v g = λ q made. (let s : (g < length q) × (epoch ≤ (place_in q g).epoch) = lost.said (View v q) made late in let a : epoch ≤ (place_in q g).epoch = s.1 in let b : 1 ≤ epoch = epoch_there in omega arith) in
              let read : HasRead plan later v (later.clients v) heir.parent g = heir.reads g there named in
              let whole : (y : ℕ) → senders (reports_of (later.clients v).groups g) y ≡ true → whole_in world g y ≡ true = λ y s. (
              let (from, i, test) = any_passes (λ report. report.sender == y) (reports_of (later.clients v).groups g) s in
              let said : whole_in world g from.sender ≡ true = lost.said _ (read.kept from i).0 refl in
              subst (λ z. whole_in world g z ≡ true) (eqb-true from.sender y test) said) in
              let after' : epoch ≤ read.at = elim read.was [
                | inl birth ↦ (let one : v ≡ 1 = birth.0 in absurd (omega arith))
                | inr view ↦ (
                    let (places, made, is) = view in
                    let s : (g < length places) × (epoch ≤ (place_in places g).epoch) = lost.said (View v places) made late in
                    let a : epoch ≤ (place_in places g).epoch = s.1 in
                    omega (arith, a, is))
              ] in
              not_read (senders (reports_of (later.clients v).groups g)) whole read.at after' read.there read.reads)
        ]

    -- ---- what an event changes

    places_lost : (v : ℕ) → SaysLost (View v (places_now plan later.authority))
    places_lost v late =
        let long : length (places_now plan later.authority) ≡ groups_joined later.authority = length-places_now plan later.authority in
        let joined : g < groups_joined later.authority = lost.joined in
        let past : epoch ≤ epoch_now plan later g = lost.past.reached in
        (omega arith, subst (λ (p : Place). epoch ≤ p.epoch) (sym (place_in-places_now plan later.authority g joined)) past)

    nodes_after : (event : Event) (group x : ℕ) → IsStuck group x ((after plan later event).nodes group x)
    nodes_after event =
        nodes_on plan certified later lost.in_run IsStuck lost.nodes
        (λ group x node old same forward. record {
          whole = λ here w. old.whole here (sym same ∙ w);
          taken = λ here named. (let t : epoch ≤ (later.nodes group x).place.epoch = old.taken here named in omega arith);
        })
        (λ group x in_plan named step h. record {
          whole = λ here w. absurd (stands group here x named step h);
          taken = λ here named'. absurd (stands group here x named step h);
        })
        event
      where
        stands : (group : ℕ) → group ≡ g → (x : ℕ) → is_named plan group x ≡ true → (step : NodeStep) → hydrated plan group x (later.nodes group x) ≡ Ok step → ⊥
        stands group here x named step h =
            let (un, own, reads, is) = hydrated-ok plan group x (later.nodes group x) step h in
            go group here named h
          where
            go : (k : ℕ) → k ≡ g → is_named plan k x ≡ true → hydrated plan k x (later.nodes k x) ≡ Ok step → ⊥
            go k here named h = not_hydrated x (subst (λ k. is_named plan k x ≡ true) here named) step (subst (λ k. hydrated plan k x (later.nodes k x) ≡ Ok step) here h)

    said_after : (event : Event) (m : Message) → IsMade (after plan later event) m → SaysLost m
    said_after event m i =
        elim (event_said plan certified later lost.in_run event m i) [
          | inl old ↦ lost.said m old
          | inr new ↦ go m new
        ]
      where
        go : (m : Message) → MaySay plan later (after plan later event) m → SaysLost m
        go (View v places) is = subst (λ p. SaysLost (View v p)) (sym is) (places_lost v)
        go (Report to l x q) whole = λ here. (nodes_after event to x).whole here whole
        go (CopyReport to f x s p c) whole = λ here. (nodes_after event to x).whole here whole
        go m h = tt

    -- the group and its configuration, at the authority
    record IsAt (authority : Authority) : Type 0 where
      joined : g < groups_joined authority
      past : IsPast (configuration_of authority g)

    at_now : IsAt later.authority
    at_now = record { joined = lost.joined; past = lost.past }

    by_the_authority : (answer : Result AuthorityStep Fault) → ((step : AuthorityStep) → answer ≡ Ok step → IsAt step.authority) → IsAt (after_step later (of_authority later answer)).authority
    by_the_authority (Err fault) good = at_now
    by_the_authority (Ok step) good = good step refl

    -- a child of the group's configuration is past it
    IsPast-child : (c : ℕ) → 0 < c → c < plan.configurations g → parent_of plan g c ≡ configuration_of later.authority g → IsPast c
    IsPast-child c positive within child =
        let next : epoch_of plan g c ≡ suc (epoch_now plan later g) = (certified.step g c there within positive).child.epoch_next ∙ ap (λ p. suc (epoch_of plan g p)) child in
        let past : epoch ≤ epoch_now plan later g = lost.past.reached in
        record {
          reached = omega arith;
          same = λ i l h. (
              let d : epoch_of plan g c - i ≡ suc (epoch_now plan later g - i) = omega arith in
              ap (λ k. ancestor plan g k c) d ∙ ap (λ k. ancestor plan g (epoch_now plan later g - i) k) child ∙ lost.past.same i l h);
        }

    by_an_advance : (group c : ℕ) → IsAt (after_step later (of_authority later (advanced plan later.authority group c))).authority
    by_an_advance group c = by_the_authority (advanced plan later.authority group c) (λ s h.
        let (a, h1) = refuse_if-ok (not (nat_lt group (groups_joined later.authority))) NoGroup _ s h in
        let (b, h2) = refuse_if-ok (not (nat_lt 0 c && (nat_lt c (plan.configurations group) && parent_of plan group c == configuration_of later.authority group))) NotInPlan _ s h1 in
        let parts : (nat_lt 0 c ≡ true) × ((nat_lt c (plan.configurations group) && parent_of plan group c == configuration_of later.authority group) ≡ true) = and_parts (nat_lt 0 c) _ (not-false _ b) in
        let both : (nat_lt c (plan.configurations group) ≡ true) × ((parent_of plan group c == configuration_of later.authority group) ≡ true) = and_parts (nat_lt c (plan.configurations group)) _ parts.1 in
        subst (λ (z : AuthorityStep). IsAt z.authority) (Ok-is _ s h2) (stepped group c (ltb-true _ _ parts.0) (ltb-true _ _ both.0) (eqb-true _ _ both.1)))
      where
        stepped : (group c : ℕ) → 0 < c → c < plan.configurations group → parent_of plan group c ≡ configuration_of later.authority group → IsAt (advance_step plan later.authority group c).authority
        stepped group c positive within child =
            let long : length (slice_set later.authority.configurations group c) ≡ groups_joined later.authority = length-slice_set later.authority.configurations group c in
            let joined : g < groups_joined later.authority = lost.joined in
            record {
              joined = omega arith;
              past = set-all 0 (λ k d. k ≡ g → IsPast d) later.authority.configurations group c
                  (λ here. IsPast-child c positive (subst (λ k. c < plan.configurations k) here within) (subst (λ k. parent_of plan k c ≡ configuration_of later.authority k) here child))
                  (λ k here. subst (λ j. IsPast (configuration_of later.authority j)) (sym here) lost.past) g refl;
            }

    authority_after : (event : Event) → IsAt (after plan later event).authority
    authority_after Assign = by_the_authority (assigned plan later.authority) (λ s h.
        subst (λ (z : AuthorityStep). IsAt z.authority) (Ok-is _ s (refuse_if-ok (nat_le 4294967295 later.authority.last_volume) EpochsSpent _ s h).1) (record { joined = lost.joined; past = lost.past }))
    authority_after (Advance group c) = by_an_advance group c
    authority_after (Refresh volume) = by_the_authority (refreshed plan later.authority volume) (λ s h.
        subst (λ (z : AuthorityStep). IsAt z.authority) (Ok-is _ s (refuse_if-ok (not (volume == later.authority.last_volume)) Superseded _ s h).1) at_now)
    authority_after Grow = by_the_authority (grown plan later.authority) (λ s h.
        let long : length (later.authority.configurations ++ 0 ∷ []) ≡ suc (groups_joined later.authority) = simp (length-append) (omega arith) in
        let joined : g < groups_joined later.authority = lost.joined in
        subst (λ (z : AuthorityStep). IsAt z.authority) (Ok-is _ s (refuse_if-ok (not (nat_lt (groups_joined later.authority) plan.groups)) AllGrown _ s h).1)
        (record { joined = omega arith; past = subst IsPast (sym (index-zero_more later.authority.configurations g)) lost.past }))
    authority_after event = subst IsAt (frame plan later event Actor.TheAuthority refl) at_now

    lost_after : (event : Event) → StaysLost (after plan later event)
    lost_after event = record {
      in_run = event_kept plan certified later lost.in_run.kept event;
      joined = (authority_after event).joined;
      past = (authority_after event).past;
      nodes = nodes_after event;
      said = said_after event;
    }

  stays_lost : (more : List Event) (later : World) → StaysLost later → StaysLost (run plan later more)
  stays_lost [] later lost = lost
  stays_lost (event ∷ more) later lost = stays_lost more (after plan later event) (lost_after later lost event)

  -- ---- the first world

  first_said : AllFromWhole world → (m : Message) → IsMade world m → SaysLost m
  first_said all (View v places) i = λ late. absurd (let view : IsView plan world v places = known.kept.messages (View v places) i in let k : v ≤ world.authority.last_volume = view.known in omega arith)
  first_said all (Report to l x q) i = λ here. subst (λ k. (world.nodes k x).whole ≡ true) here (all (Report to l x q) i)
  first_said all (CopyReport to f x s p c) i = λ here. subst (λ k. (world.nodes k x).whole ≡ true) here (all (CopyReport to f x s p c) i)
  first_said all m i = tt

  first_lost : g < groups_joined world.authority → HaveTakenStep plan world g → AllFromWhole world → StaysLost world
  first_lost joined taken all = record {
    in_run = known;
    joined = joined;
    past = IsPast-first;
    nodes = λ group x. record {
      whole = λ here w. subst (λ k. (world.nodes k x).whole ≡ true) here w;
      taken = λ here named. subst (λ k. epoch ≤ (world.nodes k x).place.epoch) (sym here) (taken x named);
    };
    said = first_said all;
  }

  is_lost : g < groups_joined world.authority → HaveTakenStep plan world g → AllFromWhole world → IsLost plan world
  is_lost joined taken all more v late =
      let end : World = run plan world more in
      elim (cases_Bool (has_cut (end.clients v).stage)) [
        | inl cut ↦ absurd (not_cut end (stays_lost more world (first_lost joined taken all)) v late cut)
        | inr no' ↦ no'
      ]

pub early_steps_lose : EarlyStepsLose
early_steps_lose plan certified events group joined taken unread =
    let world : World = run plan (opening plan) events in
    let first : IsKeptWorld plan (opening plan) = opening_kept plan certified in
    let known : IsKeptWorld plan world = run_kept plan certified events (opening plan) first in
    let within : groups_joined world.authority ≤ plan.groups = known.kept.authority.within in
    is_lost plan certified group (omega arith) world known unread joined taken
    (from_whole plan certified events (opening plan) first (opening_from_whole plan certified))
