-- The invariant holds of the opening world and of every world that a list of events leads to; so does the headline
use Rattle.std.proofs.Common.{◌≡◌, ℕ, suc, ◌<◌, ◌≤◌, true, not, ◌&&◌, ◌==◌, nat_lt, List, [], ◌∷◌, ◌++◌, Result, Ok, Err, refl, sym, ◌∙◌, subst, inl, inr, arith, slice_set}
use Rattle.std.proofs.lemmas.Bool.{and_parts, eqb-true, ltb-true, not-false}
use Rattle.volume_model.specs.Common.{IsIn, Plan, parent_of, IsCertified, Message, View, StepTo, Authority, World, Event, opening, place_now, places_now, AuthorityStep, assigned, advanced, refreshed, grown, groups_joined, of_authority, after_step, after, run, configuration_of, Assign, Advance, Refresh, Grow, Issue, Take, Cut, Open, Resend, Read, Deliver, Hydrate, Restart, Offer, KeepsCommits, VolumeKeepsCommits, SaysTruePages, PagesAreTrue, Redo, of_group, scl}
use Rattle.volume_model.proofs.Chains.{scl-all}
use Rattle.volume_model.proofs.Records.{of_group-has, of_group-from}
use Rattle.volume_model.proofs.Ordered.{page_of-same, of_group-ordered}
use Rattle.volume_model.proofs.Invariant.{Held}
use Rattle.volume_model.proofs.Kept.{IsPage, IsKept}
use Rattle.volume_model.proofs.Added.{MessageNew, messages_added}
use Rattle.volume_model.proofs.Changed.{volume_assigned, step_taken, group_joined}
use Rattle.volume_model.proofs.Sound.{is_sound, facts}
use Rattle.volume_model.proofs.FromInvariant.{keeps_commits}
use Rattle.volume_model.proofs.Renewed.{IsKeptWorld, renewed, renewed_kept, renewed_ready}
use Rattle.volume_model.proofs.NodeSteps.{refuse_if-ok, deliver_kept, hydrate_kept, restart_kept, offer_kept}
use Rattle.volume_model.proofs.ClientSteps.{issue_kept, take_kept, cut_kept, open_kept, resend_kept, read_kept}
use Rattle.volume_model.specs.declared.fault.Fault.{Fault}
use Rattle.volume_model.specs.declared.fault.Fault.TheVariants.{AllGrown, EpochsSpent, NoGroup, NotInPlan}
use Rattle.std.proofs.lemmas.Grind.{common_steps}

Ok-is : (a b : AuthorityStep) → ◌≡◌ {A = Result AuthorityStep Fault} (Ok a) (Ok b) → a ≡ b
Ok-is a b h = cc

module _ (plan : Plan) (certified : IsCertified plan) {held : Held} (world : World) (kept : IsKept plan held world) where
  -- each of the messages says what its maker is
  abbrev AreNew : World → List Message → Type 0
  AreNew w made = (m : Message) → IsIn m made → MessageNew plan held w m

  -- one message is new where it says what its maker is
  one_new : (w : World) (m : Message) → MessageNew plan held w m → AreNew w (m ∷ [])
  one_new w m new k (inl e) = subst (λ z. MessageNew plan held w z) (sym e) new
  one_new w m new k (inr z) = absurd z

  -- a step of the authority: a change, and then the messages that it makes
  authority_step : (answer : Result AuthorityStep Fault) → ((s : AuthorityStep) → answer ≡ Ok s → IsKept plan held (record world { authority = s.authority }) × AreNew (record world { authority = s.authority }) s.made) → IsKept plan held (after_step world (of_authority world answer))
  authority_step (Err number) good = kept
  authority_step (Ok s) good = messages_added plan certified held s.made (record world { authority = s.authority }) (good s refl).0 (good s refl).1

  -- a step of the authority that keeps the invariant
  abbrev IsGood : AuthorityStep → Type 0
  IsGood s = IsKept plan held (record world { authority = s.authority }) × AreNew (record world { authority = s.authority }) s.made

  as_answered : (s t : AuthorityStep) → ◌≡◌ {A = Result AuthorityStep Fault} (Ok s) (Ok t) → IsGood s → IsGood t
  as_answered s t e g = subst IsGood (Ok-is s t e) g

  assigned_good : (s : AuthorityStep) → assigned plan world.authority ≡ Ok s → IsGood s
  assigned_good s h =
      let (a, h1) = refuse_if-ok _ EpochsSpent _ s h in
      let next : Authority = record world.authority { last_volume = suc world.authority.last_volume } in
      let event_result : Message = View (suc world.authority.last_volume) (places_now plan world.authority) in
      as_answered (record { made = event_result ∷ []; authority = next }) s h1
      (volume_assigned plan world kept, one_new (record world { authority = next }) event_result (refl, refl))

  advanced_good : (group c : ℕ) (s : AuthorityStep) → advanced plan world.authority group c ≡ Ok s → IsGood s
  advanced_good group c s h =
      let (a, h1) = refuse_if-ok (not (nat_lt group (groups_joined world.authority))) NoGroup _ s h in
      let (b, h2) = refuse_if-ok (not (nat_lt 0 c && (nat_lt c (plan.configurations group) && parent_of plan group c == configuration_of world.authority group))) NotInPlan _ s h1 in
      let there : group < plan.groups = (let w : groups_joined world.authority ≤ plan.groups = kept.authority.within in let l : group < groups_joined world.authority = ltb-true _ _ (not-false _ a) in omega arith) in
      let parts : (nat_lt 0 c ≡ true) × ((nat_lt c (plan.configurations group) && parent_of plan group c == configuration_of world.authority group) ≡ true) = and_parts _ _ (not-false _ b) in
      let both : (nat_lt c (plan.configurations group) ≡ true) × ((parent_of plan group c == configuration_of world.authority group) ≡ true) = and_parts _ _ parts.1 in
      let next : Authority = record world.authority { configurations = slice_set world.authority.configurations group c } in
      as_answered (record { made = StepTo group (place_now plan next group) ∷ []; authority = next }) s h2
      (step_taken plan world kept certified group c there (ltb-true _ _ parts.0) (ltb-true _ _ both.0) (eqb-true _ _ both.1), one_new (record world { authority = next }) (StepTo group (place_now plan next group)) (there, refl))

  refreshed_good : (volume : ℕ) (s : AuthorityStep) → refreshed plan world.authority volume ≡ Ok s → IsGood s
  refreshed_good volume s h = grind (arith, common_steps)

  grown_good : (s : AuthorityStep) → grown plan world.authority ≡ Ok s → IsGood s
  grown_good s h =
      let (a, h1) = refuse_if-ok (not (nat_lt (groups_joined world.authority) plan.groups)) AllGrown _ s h in
      as_answered (record { made = []; authority = record world.authority { configurations = world.authority.configurations ++ 0 ∷ [] } }) s h1
      (group_joined plan world kept (ltb-true _ _ (not-false _ a)), λ m i. absurd i)

  assign_kept : IsKept plan held (after_step world (of_authority world (assigned plan world.authority)))
  assign_kept = authority_step (assigned plan world.authority) assigned_good

  advance_kept : (group c : ℕ) → IsKept plan held (after_step world (of_authority world (advanced plan world.authority group c)))
  advance_kept group c = authority_step (advanced plan world.authority group c) (advanced_good group c)

  refresh_kept : (volume : ℕ) → IsKept plan held (after_step world (of_authority world (refreshed plan world.authority volume)))
  refresh_kept volume = authority_step (refreshed plan world.authority volume) (refreshed_good volume)

  grow_kept : IsKept plan held (after_step world (of_authority world (grown plan world.authority)))
  grow_kept = authority_step (grown plan world.authority) grown_good

  -- an event that no node makes a copy at
  by_event : (event : Event) → IsKept plan held (after plan world event) → IsKeptWorld plan (after plan world event)
  by_event event kept' = record { held = held; kept = kept' }

  -- the event of a node, by what each member holds now
  by_node : (event : Event) → IsKept plan (renewed held world) (after plan world event) → IsKeptWorld plan (after plan world event)
  by_node event kept' = record { held = renewed held world; kept = kept' }

  ready : IsKept plan (renewed held world) world
  ready = renewed_kept plan world kept

  pub event_kept : (event : Event) → IsKeptWorld plan (after plan world event)
  event_kept Assign = by_event Assign assign_kept
  event_kept (Advance group c) = by_event (Advance group c) (advance_kept group c)
  event_kept (Refresh volume) = by_event (Refresh volume) (refresh_kept volume)
  event_kept Grow = by_event Grow grow_kept
  event_kept (Issue volume changes) = by_event (Issue volume changes) (issue_kept plan certified world kept volume changes)
  event_kept (Take volume number) = by_event (Take volume number) (take_kept plan certified world kept volume number)
  event_kept (Cut volume) = by_event (Cut volume) (cut_kept plan certified world kept volume)
  event_kept (Open volume) = by_event (Open volume) (open_kept plan certified world kept volume)
  event_kept (Resend volume lsn) = by_event (Resend volume lsn) (resend_kept plan certified world kept volume lsn)
  event_kept (Read volume group block) = by_event (Read volume group block) (read_kept plan certified world kept volume group block)
  event_kept (Deliver group member number) = by_node (Deliver group member number) (deliver_kept plan certified world ready (renewed_ready held world) group member number)
  event_kept (Hydrate group member) = by_node (Hydrate group member) (hydrate_kept plan certified world ready (renewed_ready held world) group member)
  event_kept (Restart group member) = by_node (Restart group member) (restart_kept plan certified world ready (renewed_ready held world) group member)
  event_kept (Offer group member lsn) = by_node (Offer group member lsn) (offer_kept plan certified world ready (renewed_ready held world) group member lsn)

module _ (plan : Plan) (certified : IsCertified plan) where
  -- the opening world
  abbrev pub start : World
  start = opening plan

  -- nothing was reported yet
  abbrev none_held : Held
  none_held group x s = record { lineage = []; records = [] }

  first_kept : IsKept plan none_held start
  first_kept = grind (arith, common_steps)

  pub opening_kept : IsKeptWorld plan start
  opening_kept = record { held = none_held; kept = first_kept }

  pub run_kept : (events : List Event) (world : World) → IsKeptWorld plan world → IsKeptWorld plan (run plan world events)
  run_kept [] world known = known
  run_kept (event ∷ events) world known = run_kept events (after plan world event) (event_kept plan certified world known.kept event)

  pages_true : (events : List Event) → SaysTruePages (run plan start events)
  pages_true events group l x block point bytes i =
      let world : World = run plan start events in
      let known : IsKeptWorld plan world = run_kept events start opening_kept in
      let kept : IsKept plan known.held world = known.kept in
      let page : IsPage world group l block point bytes = kept.messages _ i in
      let log : List Redo = (world.clients l.volume).log in
      sym page.page ∙ page_of-same page.kept (of_group group log) block point page.ordered (of_group-ordered group log)
      (λ r j h. of_group-has group log r (page.stands r j).0 (page.stands r j).1)
      (λ r j h. (
      let s : IsIn r log × (r.group ≡ group) = of_group-from group log r j in
      let c : point ≤ scl page.kept = page.complete in
      scl-all log (facts plan certified world kept l.volume page.cut).chain group page.kept page.stands r s.0 s.1 (omega arith)))

  commits_kept : (events : List Event) → KeepsCommits (run plan start events)
  commits_kept events =
      let known : IsKeptWorld plan (run plan start events) = run_kept events start opening_kept in
      keeps_commits plan certified (run plan start events) (is_sound plan certified (run plan start events) known.kept)

pub pages_are_true : PagesAreTrue
pages_are_true plan certified events = pages_true plan certified events

pub volume_keeps_commits : VolumeKeepsCommits
volume_keeps_commits plan certified events = commits_kept plan certified events
