-- A group whose last advance waited can be read.
use Rattle.std.proofs.Common.{◌≡◌, ℕ, zero, suc, ◌<◌, Bool, true, false, not, ◌&&◌, ◌==◌, nat_lt, nat_le, List, [], ◌∷◌, ◌++◌, Result, Ok, Err, length, refl, sym, ap, ◌∙◌, subst, arith, slice_index_or, slice_set, is_ok, if◌then◌else◌}
use Rattle.std.proofs.lemmas.Bool.{eqb-false, eqb-true, ltb-true, not-false}
use Rattle.volume_model.specs.Common.{numbered, sat, Plan, has_member, is_named, parent_of, refuse_if, NodeStep, NodeAnswer, hydrated, ClientAnswer, AuthorityStep, World, Event, advance_step, advanced, after, after_step, assigned, configuration_of, groups_joined, grown, if_there, of_authority, of_client, of_node, opening, refreshed, run, Assign, Advance, Refresh, Grow, Issue, Take, Cut, Open, Resend, Read, Deliver, Hydrate, Restart, Offer}
use Rattle.volume_model.specs.Node.{Node}
use Rattle.volume_model.proofs.Basics.{put_at-all}
use Rattle.volume_model.proofs.FormulaLaws.{sat_more}
use Rattle.volume_model.proofs.NodeSteps.{refuse_if-ok}
use Rattle.volume_model.specs.declared.fault.Fault.{Fault}
use Rattle.volume_model.specs.declared.fault.Fault.TheVariants.{AllGrown, EpochsSpent, NoActor, NoGroup, NotInPlan, Superseded}
use Rattle.world.proofs.Reactions.{deliver_leaves, offer_leaves, restart_leaves}
use Rattle.world.specs.Waiting.{CanBeRead, WaitingKeepsReaders, last_advance_waited, waited_after, whole_in}
use Rattle.std.proofs.lemmas.Grind.{common_steps}

-- ---- a whole node stays whole

hydrate_whole : (plan : Plan) (group x : ℕ) (node : Node) (step : NodeStep) → hydrated plan group x node ≡ Ok step → node.whole ≡ true → step.node.whole ≡ true
hydrate_whole plan group x node step h w = grind (arith, common_steps)

-- ---- an authority's configurations

joined-same : (cs : List ℕ) (k : ℕ) → slice_index_or (cs ++ 0 ∷ []) k 0 ≡ slice_index_or cs k 0
joined-same [] zero = refl
joined-same [] (suc k) = refl
joined-same (c ∷ cs) zero = refl
joined-same (c ∷ cs) (suc k) = joined-same cs k

set-here : (cs : List ℕ) (k c : ℕ) → k < length cs → slice_index_or (slice_set cs k c) k 0 ≡ c
set-here [] k c l = absurd (omega arith)
set-here (d ∷ cs) zero c l = refl
set-here (d ∷ cs) (suc k) c l = set-here cs k c (omega arith)

set-other : (cs : List ℕ) (h k c : ℕ) → (h ≡ k → ⊥) → slice_index_or (slice_set cs h c) k 0 ≡ slice_index_or cs k 0
set-other [] h k c n = refl
set-other (d ∷ cs) zero zero c n = absurd (n refl)
set-other (d ∷ cs) zero (suc k) c n = refl
set-other (d ∷ cs) (suc h) zero c n = refl
set-other (d ∷ cs) (suc h) (suc k) c n = set-other cs h k c (λ e. n (ap suc e))

-- ---- a step keeps that the group can be read

As-is : (a b : AuthorityStep) → ◌≡◌ {A = Result AuthorityStep Fault} (Ok a) (Ok b) → a ≡ b
As-is a b h = cc

-- what a refused advance leaves
refused-same : (here now before : Bool) → (if here && false then now else before) ≡ before
refused-same true now before = refl
refused-same false now before = refl

module _ (plan : Plan) (group : ℕ) (world : World) where
  -- the group stays where it is
  abbrev StaysThere : AuthorityStep → Type 0
  StaysThere s = configuration_of s.authority group ≡ configuration_of world.authority group

  by_the_authority : (answer : Result AuthorityStep Fault) → ((s : AuthorityStep) → answer ≡ Ok s → StaysThere s) → CanBeRead plan world group → CanBeRead plan (after_step world (of_authority world answer)) group
  by_the_authority (Err number) same h = h
  by_the_authority (Ok s) same h = subst (λ c. sat (plan.configuration group c).read (whole_in world group) ≡ true) (sym (same s refl)) h

  assigned_there : (s : AuthorityStep) → assigned plan world.authority ≡ Ok s → StaysThere s
  assigned_there s h =
      let (a, h1) = refuse_if-ok (nat_le 4294967295 world.authority.last_volume) EpochsSpent _ s h in
      ap (λ z. configuration_of z.authority group) (sym (As-is _ s h1))

  refreshed_there : (volume : ℕ) (s : AuthorityStep) → refreshed plan world.authority volume ≡ Ok s → StaysThere s
  refreshed_there volume s h =
      let (a, h1) = refuse_if-ok (not (volume == world.authority.last_volume)) Superseded _ s h in
      ap (λ z. configuration_of z.authority group) (sym (As-is _ s h1))

  grown_there : (s : AuthorityStep) → grown plan world.authority ≡ Ok s → StaysThere s
  grown_there s h =
      let (a, h1) = refuse_if-ok (not (nat_lt (groups_joined world.authority) plan.groups)) AllGrown _ s h in
      ap (λ z. configuration_of z.authority group) (sym (As-is _ s h1)) ∙ joined-same world.authority.configurations group

  advanced_there : (other c : ℕ) (s : AuthorityStep) → advanced plan world.authority other c ≡ Ok s → (s ≡ advance_step plan world.authority other c) × (other < length world.authority.configurations)
  advanced_there other c s h =
      let (a, h1) = refuse_if-ok (not (nat_lt other (groups_joined world.authority))) NoGroup _ s h in
      let (b, h2) = refuse_if-ok (not (nat_lt 0 c && (nat_lt c (plan.configurations other) && parent_of plan other c == configuration_of world.authority other))) NotInPlan _ s h1 in
      (sym (As-is _ s h2), ltb-true other (length world.authority.configurations) (not-false _ a))

  -- whether the members that are whole could read a configuration
  abbrev can_read : ℕ → Bool
  can_read c = sat (plan.configuration group c).read (whole_in world group)

  by_an_advance : (other c : ℕ) (before : Bool) → (before ≡ true → CanBeRead plan world group)
      → (answer : Result AuthorityStep Fault)
      → ((s : AuthorityStep) → answer ≡ Ok s → (s ≡ advance_step plan world.authority other c) × (other < length world.authority.configurations))
      → (if (other == group) && is_ok answer then can_read c else before) ≡ true
      → CanBeRead plan (after_step world (of_authority world answer)) group
  by_an_advance other c before h (Err number) is waited = h (sym (refused-same (other == group) _ before) ∙ waited)
  by_an_advance other c before h (Ok s) is waited = go (other == group) refl
    where
      step : s ≡ advance_step plan world.authority other c
      step = (is s refl).0

      go : (here : Bool) → (other == group) ≡ here → CanBeRead plan (after_step world (of_authority world (Ok s))) group
      go true e =
          let same : other ≡ group = eqb-true other group e in
          let waits : can_read c ≡ true = sym (ap (λ here. if here && true then can_read c else before) e) ∙ waited in
          let there : configuration_of s.authority group ≡ c =
          ap (λ z. configuration_of z.authority group) step ∙ ap (λ g. slice_index_or (slice_set world.authority.configurations other c) g 0) (sym same) ∙ set-here world.authority.configurations other c (is s refl).1 in
          subst (λ k. sat (plan.configuration group k).read (whole_in world group) ≡ true) (sym there) waits
      go false e =
          let was : before ≡ true = sym (ap (λ here. if here && true then can_read c else before) e) ∙ waited in
          let there : configuration_of s.authority group ≡ configuration_of world.authority group =
          ap (λ z. configuration_of z.authority group) step ∙ set-other world.authority.configurations other group c (eqb-false other group e) in
          subst (λ k. sat (plan.configuration group k).read (whole_in world group) ≡ true) (sym there) (h was)

  by_a_client : (v : ℕ) (answer : ClientAnswer) → CanBeRead plan world group → CanBeRead plan (after_step world (of_client world v answer)) group
  by_a_client v (Err number) h = h
  by_a_client v (Ok s) h = h

  stepped : (g x : ℕ) (answer : NodeAnswer) → ((step : NodeStep) → answer ≡ Ok step → (world.nodes g x).whole ≡ true → step.node.whole ≡ true) → CanBeRead plan world group → CanBeRead plan (after_step world (of_node world g x answer)) group
  stepped g x (Err number) stays h = h
  stepped g x (Ok step) stays h =
      sat_more (plan.configuration group (configuration_of world.authority group)).read (whole_in world group) _
      (λ y. put_at-all (λ k z node. (world.nodes k z).whole ≡ true → node.whole ≡ true) world.nodes g x step.node (stays step refl) (λ k z w. w) group y) h

  by_a_node : (g x : ℕ) (answer : NodeAnswer) → ((step : NodeStep) → answer ≡ Ok step → (world.nodes g x).whole ≡ true → step.node.whole ≡ true) → CanBeRead plan world group → CanBeRead plan (after_step world (of_node world g x (if_there plan (groups_joined world.authority) g x answer))) group
  by_a_node g x answer stays h = go (nat_lt g (groups_joined world.authority) && is_named plan g x)
    where
      go : (is : Bool) → CanBeRead plan (after_step world (of_node world g x (refuse_if (not is) NoActor answer))) group
      go false = h
      go true = stepped g x answer stays h

  event_keeps : (event : Event) (before : Bool) → (before ≡ true → CanBeRead plan world group) → waited_after plan world group event before ≡ true → CanBeRead plan (after plan world event) group
  event_keeps Assign before h waited = by_the_authority (assigned plan world.authority) assigned_there (h waited)
  event_keeps (Advance other c) before h waited = by_an_advance other c before h (advanced plan world.authority other c) (advanced_there other c) waited
  event_keeps (Refresh volume) before h waited = by_the_authority (refreshed plan world.authority volume) (refreshed_there volume) (h waited)
  event_keeps Grow before h waited = by_the_authority (grown plan world.authority) grown_there (h waited)
  event_keeps (Issue v changes) before h waited = by_a_client v _ (h waited)
  event_keeps (Take v number) before h waited = by_a_client v _ (h waited)
  event_keeps (Cut v) before h waited = by_a_client v _ (h waited)
  event_keeps (Open v) before h waited = by_a_client v _ (h waited)
  event_keeps (Resend v lsn) before h waited = by_a_client v _ (h waited)
  event_keeps (Read v g block) before h waited = by_a_client v _ (h waited)
  event_keeps (Deliver g x number) before h waited = by_a_node g x _ (λ step e w. (deliver_leaves plan g x (world.nodes g x) (numbered world.messages number) step e).whole ∙ w) (h waited)
  event_keeps (Hydrate g x) before h waited = by_a_node g x _ (hydrate_whole plan g x (world.nodes g x)) (h waited)
  event_keeps (Restart g x) before h waited = by_a_node g x _ (λ step e w. (restart_leaves plan g x (world.nodes g x) step e).0.whole ∙ w) (h waited)
  event_keeps (Offer g x lsn) before h waited = by_a_node g x _ (λ step e w. (offer_leaves plan g x (world.nodes g x) lsn step e).1.whole ∙ w) (h waited)

-- ---- runs

runs_keep : (plan : Plan) (group : ℕ) (events : List Event) (world : World) (before : Bool) → (before ≡ true → CanBeRead plan world group) → last_advance_waited plan world group events before ≡ true → CanBeRead plan (run plan world events) group
runs_keep plan group [] world before h waited = h waited
runs_keep plan group (event ∷ events) world before h waited = grind (arith, common_steps, event_keeps, (runs_keep plan group events (after plan world event) (waited_after plan world group event before) (event_keeps plan group world event before h) waited))

opening_read : (plan : Plan) (group : ℕ) → sat (plan.configuration group 0).read (has_member (plan.configuration group 0)) ≡ true → CanBeRead plan (opening plan) group
opening_read plan group root = grind (arith, common_steps)

pub waiting_keeps : WaitingKeepsReaders
waiting_keeps plan group events root waited = runs_keep plan group events (opening plan) true (λ t. opening_read plan group root) waited
