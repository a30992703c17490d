-- If each group can be read, a recovery can be led to its cut.
use Rattle.std.proofs.Common.{◌≡◌, ℕ, zero, suc, ◌<◌, ◌≤◌, Bool, true, false, not, ◌&&◌, ◌||◌, ◌==◌, nat_lt, nat_le, if◌then◌else◌, ◌⊎◌, List, [], ◌∷◌, ◌^◌, ◌++◌, Some, None, Result, Ok, Err, length, map, replicate, refl, sym, ap, ◌∙◌, subst, inl, inr, arith, slice_index_or, slice_set}
use Rattle.std.proofs.lemmas.Bool.{cases_Bool, cases_lt, and_parts, and_from, both_ways, true≢false, eqb-true, eqb-false, eq-eqb, ltb-true, lt-ltb, le-ltb, le-leb, lt-leb}
use Rattle.volume_model.specs.Common.{IsIn, added, every, every_below, each_below, some_below, numbered, put, put_at, KeepsClaims, Members, sat, Redo, cut_of, log_found, Contents, Lineage, extended, last_epoch, last_start, newest, Plan, IsCertified, epoch_of, has_member, is_configuration, is_named, parent_of, Place, Message, place_in, View, StepTo, Fence, Report, CopyAsk, refuse_if, From, NodeStep, NodeAnswer, born_node, hydrated, in_group, reaction, senders, ClientAnswer, ClientGroup, ClientStep, Stage, group_of, has_cut, if_born, is_born, label_of, newly_at, no_group, place_configuration, place_of, reports_of, stays, Unborn, Reading, Installing, Writing, ◌>>=◌, born_client, cut_client, cut_step, has_read, report_taken, reported, are_places, is_for, taken, AuthorityStep, World, Event, advance_step, advanced, after, after_step, assigned, configuration_of, deliver, groups_joined, grown, if_there, of_authority, of_client, of_node, opening, place_now, places_now, refreshed, run, take, Assign, Advance, Refresh, Grow, Issue, Take, Cut, Open, Resend, Read, Deliver, Hydrate, Restart, Offer}
use Rattle.volume_model.specs.Lineage.{found_in}
use Rattle.volume_model.specs.Node.{Node, with_first}
use Rattle.volume_model.specs.Client.{Client}
use Rattle.volume_model.proofs.Basics.{IsIn-append_left, IsIn-append_right, put-all, put_at-all}
use Rattle.volume_model.proofs.Groups.{group_of-new, index-zero_more, length-slice_set, set-all}
use Rattle.volume_model.proofs.Growing.{keeps_after}
use Rattle.volume_model.proofs.ClientSteps.{put-same}
use Rattle.volume_model.proofs.Invariant.{IsCopy, IsMade, epoch_now, label}
use Rattle.volume_model.proofs.NodeSteps.{hydrated-ok, put_at-same, refuse_if-ok}
use Rattle.volume_model.proofs.Claims.{claims_certify}
use Rattle.volume_model.proofs.FormulaLaws.{sat-own, sat_more}
use Rattle.volume_model.proofs.Renewed.{IsKeptWorld}
use Rattle.volume_model.proofs.Sound.{born_from_cut}
use Rattle.volume_model.proofs.Views.{length-places_now, place_in-places_now}
use Rattle.volume_model.proofs.Run.{event_kept, opening_kept, run_kept}
use Rattle.volume_model.specs.declared.fault.Fault.{Fault}
use Rattle.volume_model.specs.declared.fault.Fault.TheVariants.{LsnSpent, AllGrown, EpochsSpent, NoActor, NoGroup, Superseded, NotAddressed, NotInPlan}
use Rattle.world.specs.Waiting.{CanBeRead, whole_in}
use Rattle.world.specs.Readable.{CanCut, ReadableVolumesRecover}
use Rattle.world.proofs.Lost.{Ok-is, nodes_on}
use Rattle.world.proofs.Volumes.{VolumesKnown, volumes_known}
use Rattle.std.proofs.lemmas.Grind.{common_steps}

-- who satisfies a read expression satisfies it without the members that the configuration doesn't have, and without
-- numbers that no message may have as its sender
abbrev pub ReadsMembers : Plan → Type 0
ReadsMembers plan = (group c : ℕ) (readers : Members) → group < plan.groups → c < plan.configurations group
    → sat (plan.configuration group c).read readers ≡ true
    → sat (plan.configuration group c).read (λ x. readers x && (has_member (plan.configuration group c) x && nat_lt x 64)) ≡ true

-- ---- lists

pub has_number : {A : Type 0} (xs : List A) (x : A) → IsIn x xs → (n : ℕ) × (n ≤ length xs) × (numbered xs n ≡ Some x)
has_number [] x i = absurd i
has_number (y ∷ ys) x (inl e) = (suc (length ys), omega arith, rw (eq-eqb (suc (length ys)) (suc (length ys)) refl) (ap Some (sym e)))
has_number (y ∷ ys) x (inr i) =
    let (n, l, h) = has_number ys x i in
    let far : (n == suc (length ys)) ≡ false = le_eqb n (length ys) l in
    (n, omega arith, rw far h)
  where
    le_eqb : (n m : ℕ) → n ≤ m → (n == suc m) ≡ false
    le_eqb n m l = elim (cases_Bool (n == suc m)) [
      | inl e ↦ (let s : n ≡ suc m = eqb-true n (suc m) e in absurd (omega arith))
      | inr no' ↦ no'
    ]

pub every_true : {A : Type 0} (test : A → Bool) (xs : List A) → ((x : A) → IsIn x xs → test x ≡ true) → every test xs ≡ true
every_true test [] h = refl
every_true test (x ∷ xs) h = and_from (test x) (every test xs) (h x (inl refl)) (every_true test xs (λ y i. h y (inr i)))

pub every_below_true : (n : ℕ) (test : ℕ → Bool) → ((k : ℕ) → k < n → test k ≡ true) → every_below n test ≡ true
every_below_true zero test h = refl
every_below_true (suc n) test h = and_from (test n) (every_below n test) (h n (omega arith)) (every_below_true n test (λ k l. h k (omega arith)))

pub some_below_true : (n : ℕ) (test : ℕ → Bool) (k : ℕ) → k < n → test k ≡ true → some_below n test ≡ true
some_below_true zero test k l h = absurd (omega arith)
some_below_true (suc n) test k l h =
    elim (cases_lt k n) [
      | inl lower ↦ or_right (test n) (some_below n test) (some_below_true n test k lower h)
      | inr last ↦ (let e : k ≡ n = omega arith in or_left (test n) (some_below n test) (subst (λ m. test m ≡ true) e h))
    ]
  where
    or_right : (a b : Bool) → b ≡ true → (a || b) ≡ true
    or_right true b h = refl
    or_right false b h = h

    or_left : (a b : Bool) → a ≡ true → (a || b) ≡ true
    or_left true b h = refl
    or_left false b h = absurd (true≢false (sym h))

-- ---- one delivery, one taking

module _ (plan : Plan) (world : World) where
  pub delivered : (g x n : ℕ) (m : Message) (step : NodeStep) → g < groups_joined world.authority → is_named plan g x ≡ true → numbered world.messages n ≡ Some m
      → ◌≡◌ {A = NodeAnswer} (reaction plan g x (world.nodes g x) m) (Ok step)
      → after plan world (Deliver g x n) ≡ record world { nodes = put_at world.nodes g x step.node; messages = added step.made world.messages }
  delivered g x n m step joined named found is =
      let answer : ◌≡◌ {A = NodeAnswer} (deliver plan g x (world.nodes g x) (numbered world.messages n)) (Ok step) = ap (deliver plan g x (world.nodes g x)) found ∙ is in
      let there : ◌≡◌ {A = NodeAnswer} (if_there plan (groups_joined world.authority) g x (deliver plan g x (world.nodes g x) (numbered world.messages n))) (Ok step) =
      rw (lt-ltb g (groups_joined world.authority) joined, named) answer in
      ap (λ a. after_step world (of_node world g x a)) there

  pub took : (v n : ℕ) (m : Message) (step : ClientStep) → numbered world.messages n ≡ Some m → ◌≡◌ {A = ClientAnswer} (taken plan v (world.clients v) m) (Ok step)
      → after plan world (Take v n) ≡ record world { clients = put world.clients v step.client; messages = added step.made world.messages }
  took v n m step found is =
      let answer : ◌≡◌ {A = ClientAnswer} (take plan v (world.clients v) (numbered world.messages n)) (Ok step) = ap (take plan v (world.clients v)) found ∙ is in
      ap (λ a. after_step world (of_client world v a)) answer

pub IsIn-kept : {A : Type 0} (made kept : List A) (x : A) → IsIn x kept → IsIn x (added made kept)
IsIn-kept [] kept x i = i
IsIn-kept (y ∷ made) kept x i = IsIn-kept made (y ∷ kept) x (inr i)

pub IsIn-new : {A : Type 0} (made kept : List A) (x : A) → IsIn x made → IsIn x (added made kept)
IsIn-new [] kept x i = absurd i
IsIn-new (y ∷ made) kept x (inl e) = IsIn-kept made (y ∷ kept) x (inl e)
IsIn-new (y ∷ made) kept x (inr i) = IsIn-new made (y ∷ kept) x i

-- ---- what each run has told of steps

-- the StepTo of a group's configuration was made, unless that is the root
abbrev pub HasStep : Plan → World → ℕ → Type 0
HasStep plan world g = (configuration_of world.authority g ≡ 0) ⊎ IsMade world (StepTo g (place_now plan world.authority g))

-- a whole node has a place
abbrev pub HasPlace : ℕ → ℕ → Node → Type 0
HasPlace g x node = node.whole ≡ true → 1 ≤ node.place.epoch

module _ (plan : Plan) (certified : IsCertified plan) (world : World) (known : IsKeptWorld plan world) where
  pub place_on : ((g x : ℕ) → HasPlace g x (world.nodes g x)) → (event : Event) (g x : ℕ) → HasPlace g x ((after plan world event).nodes g x)
  place_on old event =
      nodes_on plan certified world known HasPlace old
      (λ g x node h same grows w. (let o : 1 ≤ (world.nodes g x).place.epoch = h (sym same ∙ w) in omega arith))
      (λ g x there named step h w. hydrated_place g x step h)
      event
    where
      hydrated_place : (g x : ℕ) (step : NodeStep) → hydrated plan g x (world.nodes g x) ≡ Ok step → 1 ≤ step.node.place.epoch
      hydrated_place g x step h =
          let (un, own, reads, is) = hydrated-ok plan g x (world.nodes g x) step h in
          let positive : 0 < (world.nodes g x).place.epoch = ltb-true 0 _ (and_parts (nat_lt 0 (world.nodes g x).place.epoch) _ own).0 in
          let same : step.node.place.epoch ≡ (world.nodes g x).place.epoch = ap (λ (s : NodeStep). s.node.place.epoch) is in
          omega arith

  pub made_on : (event : Event) (m : Message) → IsMade world m → IsMade (after plan world event) m
  made_on event m i = (let (later, e) = keeps_after plan world event in subst (λ z. IsIn m z) e (IsIn-append_right later world.messages m i))

  pub by_authority : (g : ℕ) (event : Event) (answer : Result AuthorityStep Fault) → HasStep plan world g
      → ((s : AuthorityStep) → answer ≡ Ok s → (configuration_of s.authority g ≡ configuration_of world.authority g) ⊎ IsIn (StepTo g (place_now plan s.authority g)) s.made)
      → ((m : Message) → IsMade world m → IsMade (after_step world (of_authority world answer)) m)
      → HasStep plan (after_step world (of_authority world answer)) g
  by_authority g event (Err fault) old moves keeps = old
  by_authority g event (Ok s) old moves keeps =
      elim (moves s refl) [
        | inl same ↦ elim old [
          | inl root ↦ inl (same ∙ root)
          | inr made ↦ inr (subst (λ c. IsMade (after_step world (of_authority world (Ok s))) (StepTo g (record { configuration = c; epoch = epoch_of plan g c }))) (sym same) (keeps (StepTo g (place_now plan world.authority g)) made))
        ]
        | inr new ↦ inr (IsIn-new s.made world.messages _ new)
      ]

  pub by_client : (g v : ℕ) (answer : ClientAnswer) → HasStep plan world g → ((m : Message) → IsMade world m → IsMade (after_step world (of_client world v answer)) m) → HasStep plan (after_step world (of_client world v answer)) g
  by_client g v (Err fault) old keeps = old
  by_client g v (Ok s) (inl root) keeps = inl root
  by_client g v (Ok s) (inr made) keeps = inr (keeps _ made)

  pub by_node : (g group x : ℕ) (answer : NodeAnswer) → HasStep plan world g → ((m : Message) → IsMade world m → IsMade (after_step world (of_node world group x answer)) m) → HasStep plan (after_step world (of_node world group x answer)) g
  by_node g group x (Err fault) old keeps = old
  by_node g group x (Ok s) (inl root) keeps = inl root
  by_node g group x (Ok s) (inr made) keeps = inr (keeps _ made)

  pub step_on : (g : ℕ) → HasStep plan world g → (event : Event) → HasStep plan (after plan world event) g
  step_on g old Assign = by_authority g Assign (assigned plan world.authority) old (λ s h.
      inl (ap (λ (z : AuthorityStep). configuration_of z.authority g) (sym (Ok-is _ s (refuse_if-ok (nat_le 4294967295 world.authority.last_volume) EpochsSpent _ s h).1)))) (made_on Assign)
  step_on g old (Advance group c) = by_authority g (Advance group c) (advanced plan world.authority group c) old (λ s h.
      let (a, h1) = refuse_if-ok (not (nat_lt group (groups_joined world.authority))) NoGroup _ s h in
      let h2 = (refuse_if-ok (not (nat_lt 0 c && (nat_lt c (plan.configurations group) && parent_of plan group c == configuration_of world.authority group))) NotInPlan _ s h1).1 in
      subst (λ (z : AuthorityStep). (configuration_of z.authority g ≡ configuration_of world.authority g) ⊎ IsIn (StepTo g (place_now plan z.authority g)) z.made) (Ok-is (advance_step plan world.authority group c) s h2)
      (elim (cases_Bool (group == g)) [
        | inl here ↦ inr (inl (let e : group ≡ g = eqb-true group g here in ap (λ k. StepTo k (place_now plan (advance_step plan world.authority group c).authority k)) (sym e)))
        | inr there ↦ inl (set-else world.authority.configurations group g c (eqb-false group g there))
      ])) (made_on (Advance group c))
    where
      set-else : (cs : List ℕ) (h k c : ℕ) → (h ≡ k → ⊥) → slice_index_or (slice_set cs h c) k 0 ≡ slice_index_or cs k 0
      set-else [] h k c n = refl
      set-else (d ∷ cs) zero zero c n = absurd (n refl)
      set-else (d ∷ cs) zero (suc k) c n = refl
      set-else (d ∷ cs) (suc h) zero c n = refl
      set-else (d ∷ cs) (suc h) (suc k) c n = set-else cs h k c (λ e. n (ap suc e))
  step_on g old (Refresh volume) = by_authority g (Refresh volume) (refreshed plan world.authority volume) old (λ s h.
      inl (ap (λ (z : AuthorityStep). configuration_of z.authority g) (sym (Ok-is _ s (refuse_if-ok (not (volume == world.authority.last_volume)) Superseded _ s h).1)))) (made_on (Refresh volume))
  step_on g old Grow = by_authority g Grow (grown plan world.authority) old (λ s h.
      inl (ap (λ (z : AuthorityStep). configuration_of z.authority g) (sym (Ok-is _ s (refuse_if-ok (not (nat_lt (groups_joined world.authority) plan.groups)) AllGrown _ s h).1)) ∙ index-zero_more world.authority.configurations g)) (made_on Grow)
  step_on g old (Issue v changes) = by_client g v _ old (made_on (Issue v changes))
  step_on g old (Take v number) = by_client g v _ old (made_on (Take v number))
  step_on g old (Cut v) = by_client g v _ old (made_on (Cut v))
  step_on g old (Open v) = by_client g v _ old (made_on (Open v))
  step_on g old (Resend v lsn) = by_client g v _ old (made_on (Resend v lsn))
  step_on g old (Read v group block) = by_client g v _ old (made_on (Read v group block))
  step_on g old (Deliver group x number) = by_node g group x _ old (made_on (Deliver group x number))
  step_on g old (Hydrate group x) = by_node g group x _ old (made_on (Hydrate group x))
  step_on g old (Restart group x) = by_node g group x _ old (made_on (Restart group x))
  step_on g old (Offer group x lsn) = by_node g group x _ old (made_on (Offer group x lsn))

module _ (plan : Plan) (certified : IsCertified plan) where
  pub run_steps : (events : List Event) (world : World) → IsKeptWorld plan world → ((g x : ℕ) → HasPlace g x (world.nodes g x)) → ((g : ℕ) → HasStep plan world g)
      → ((g x : ℕ) → HasPlace g x ((run plan world events).nodes g x)) × ((g : ℕ) → HasStep plan (run plan world events) g)
  run_steps [] world known places steps = (places, steps)
  run_steps (event ∷ events) world known places steps =
      run_steps events (after plan world event) (event_kept plan certified world known.kept event) (place_on plan certified world known places event) (λ g. step_on plan certified world known g (steps g) event)

  pub born_place : (g x : ℕ) (b : Bool) → has_member (plan.configuration g 0) x ≡ b → HasPlace g x (born_node plan g x)
  born_place g x true e = rw e (λ w. omega arith)
  born_place g x false e = rw e (λ w. absurd (true≢false (sym w)))

  pub steps_known : (events : List Event) → ((g x : ℕ) → HasPlace g x ((run plan (opening plan) events).nodes g x)) × ((g : ℕ) → HasStep plan (run plan (opening plan) events) g)
  steps_known events = run_steps events (opening plan) (opening_kept plan certified) (λ g x. born_place g x (has_member (plan.configuration g 0) x) refl) (λ g. inl (born-same plan.born g))
    where
      born-same : (n k : ℕ) → ◌≡◌ {A = ℕ} (slice_index_or (replicate n 0) k 0) 0
      born-same zero k = refl
      born-same (suc n) zero = refl
      born-same (suc n) (suc k) = born-same n k

-- ---- the events

pub each_has : {A : Type 0} (n : ℕ) (f : ℕ → A) (k : ℕ) → k < n → IsIn (f k) (each_below n (λ k. true) f)
each_has zero f k l = absurd (omega arith)
each_has (suc n) f k l =
    elim (cases_lt k n) [
      | inl lower ↦ IsIn-append_left (each_below n (λ k. true) f) (f n ∷ []) (f k) (each_has n f k lower)
      | inr last ↦ (let e : k ≡ n = omega arith in IsIn-append_right (each_below n (λ k. true) f) (f n ∷ []) (f k) (inl (ap f e)))
    ]

pub senders_first : (new : From) (reports : List From) (y : ℕ) → senders reports y ≡ true → senders (with_first new reports) y ≡ true
senders_first new reports y h = grind (arith, common_steps)

pub sender_first : (new : From) (reports : List From) → senders (with_first new reports) new.sender ≡ true
sender_first new reports = grind (arith, common_steps)

pub unborn_from : (stage : Stage) → (is_born stage ≡ true → ⊥) → stage ≡ Unborn
unborn_from Unborn h = refl
unborn_from Reading h = absurd (h refl)
unborn_from Installing h = absurd (h refl)
unborn_from Writing h = absurd (h refl)

pub length_mapped : {A B : Type 0} (f : A → B) (xs : List A) → length (map f xs) ≡ length xs
length_mapped f [] = refl
length_mapped f (x ∷ xs) = ap suc (length_mapped f xs)

-- a test that passes refuses nothing
pub passes : {A : Type 0} (test : Bool) (fault : Fault) (rest : Result A Fault) → test ≡ true → refuse_if (not test) fault rest ≡ rest
passes test fault rest h = rw h refl

pub set-here : (groups : List ClientGroup) (k : ℕ) (group : ClientGroup) → k < length groups → group_of (slice_set groups k group) k ≡ group
set-here [] k group l = absurd (omega arith)
set-here (g ∷ groups) zero group l = refl
set-here (g ∷ groups) (suc k) group l = set-here groups k group (omega arith)

-- some events lead from one world to another
abbrev pub Reaches : Plan → World → World → Type 0
Reaches plan world later = (more : List Event) × (run plan world more ≡ later)

module _ (plan : Plan) where
  pub run_append : (world : World) (es fs : List Event) → run plan world (es ++ fs) ≡ run plan (run plan world es) fs
  run_append world [] fs = refl
  run_append world (e ∷ es) fs = run_append (after plan world e) es fs

  pub reach_none : (world : World) → Reaches plan world world
  reach_none world = ([], refl)

  pub reach_one : (world : World) (event : Event) → Reaches plan world (after plan world event)
  reach_one world event = (event ∷ [], refl)

  pub reach_then : (a b c : World) → Reaches plan a b → Reaches plan b c → Reaches plan a c
  reach_then a b c (es, h) (fs, k) = (es ++ fs, run_append a es fs ∙ ap (λ z. run plan z fs) h ∙ k)

module _ (plan : Plan) (certified : IsCertified plan) (world : World) (known : IsKeptWorld plan world) (volumes : VolumesKnown world)
    (placed : (g x : ℕ) → HasPlace g x (world.nodes g x)) (steps : (g : ℕ) → HasStep plan world g) (left : world.authority.last_volume < 4294967295) where
  -- the recovery's volume epoch
  abbrev pub v : ℕ
  v = suc world.authority.last_volume

  abbrev pub joined : ℕ
  joined = groups_joined world.authority

  abbrev pub epoch : ℕ → ℕ
  epoch g = epoch_now plan world g

  abbrev pub place : ℕ → Place
  place g = place_now plan world.authority g

  in_plan : (g : ℕ) → g < joined → g < plan.groups
  in_plan g l = (let w : joined ≤ plan.groups = known.kept.authority.within in omega arith)

  -- the recovery reads, and everything that it needs for a report was made
  pub record IsReading (u : World) : Type 0 where
    pub in_run : IsKeptWorld plan u
    pub last : u.authority.last_volume ≤ v
    pub configurations : u.authority.configurations ≡ world.authority.configurations
    pub stage : (u.clients v).stage ≡ Reading
    pub groups : length (u.clients v).groups ≡ joined
    pub places : (g : ℕ) → g < joined → place_of (u.clients v).groups g ≡ place g
    pub fence : (g : ℕ) → g < joined → IsMade u (Fence g (label v (epoch g)))
    pub step : (g : ℕ) → (configuration_of world.authority g ≡ 0) ⊎ IsMade u (StepTo g (place g))
    pub volume : (g x : ℕ) → (u.nodes g x).volume ≤ v
    pub placed_on : (g x : ℕ) → HasPlace g x (u.nodes g x)
    pub whole : (g x : ℕ) → whole_in world g x ≡ true → whole_in u g x ≡ true
    pub copied : (g x : ℕ) → (u.nodes g x).copied ≡ (world.nodes g x).copied
    pub others : (k : ℕ) → (k ≡ v → ⊥) → u.clients k ≡ world.clients k

  -- the recovery keeps each report that it had
  abbrev pub Keeps : World → World → Type 0
  Keeps u later = (g y : ℕ) → senders (reports_of (u.clients v).groups g) y ≡ true → senders (reports_of (later.clients v).groups g) y ≡ true

  -- a delivery that leaves all this
  pub delivered_on : (u : World) → IsReading u → (g x n : ℕ) (m : Message) (step : NodeStep) → g < joined → is_named plan g x ≡ true → numbered u.messages n ≡ Some m
      → ◌≡◌ {A = NodeAnswer} (reaction plan g x (u.nodes g x) m) (Ok step)
      → step.node.volume ≤ v → HasPlace g x step.node → ((u.nodes g x).whole ≡ true → step.node.whole ≡ true) → step.node.copied ≡ (u.nodes g x).copied
      → IsReading (after plan u (Deliver g x n)) × Keeps u (after plan u (Deliver g x n)) × ((after plan u (Deliver g x n)) ≡ record u { nodes = put_at u.nodes g x step.node; messages = added step.made u.messages })
  delivered_on u r g x n m step l named found is volume placed_after whole_after copied_same =
      let there : g < groups_joined u.authority = subst (λ (cs : List ℕ). g < length cs) (sym r.configurations) l in
      let e : after plan u (Deliver g x n) ≡ record u { nodes = put_at u.nodes g x step.node; messages = added step.made u.messages } = delivered plan u g x n m step there named found is in
      let run_on : IsKeptWorld plan (after plan u (Deliver g x n)) = event_kept plan certified u r.in_run.kept (Deliver g x n) in (
        subst IsReading (sym e) (record {
          in_run = subst (IsKeptWorld plan) e run_on;
          last = r.last;
          configurations = r.configurations;
          stage = r.stage;
          groups = r.groups;
          places = r.places;
          fence = λ k h. IsIn-kept step.made u.messages _ (r.fence k h);
          step = λ k. elim (r.step k) [ inl root ↦ inl root | inr made ↦ inr (IsIn-kept step.made u.messages _ made) ];
          volume = put_at-all (λ k y node. node.volume ≤ v) u.nodes g x step.node volume r.volume;
          placed_on = put_at-all HasPlace u.nodes g x step.node placed_after r.placed_on;
          whole = λ k y w. put_at-all (λ k y node. (u.nodes k y).whole ≡ true → node.whole ≡ true) u.nodes g x step.node whole_after (λ k y h. h) k y (r.whole k y w);
          copied = put_at-all (λ k y (node : Node). node.copied ≡ (world.nodes k y).copied) u.nodes g x step.node (copied_same ∙ r.copied g x) r.copied;
          others = r.others;
        }),
        subst (λ z. Keeps u z) (sym e) (λ k y h. h),
        e,
      )

  module _ (g x : ℕ) (l : g < joined) (named : is_named plan g x ≡ true) (whole_there : whole_in world g x ≡ true) (small : x < 64) where
    -- the member learns of the group's step, if it hasn't
    stepped : (u : World) → IsReading u → (later : World) × Reaches plan u later × IsReading later × Keeps u later × ((later.nodes g x).place.epoch ≡ epoch g)
    stepped u r =
        let node : Node = u.nodes g x in
        let w : node.whole ≡ true = r.whole g x whole_there in
        let one : 1 ≤ node.place.epoch = r.placed_on g x w in
        let now : epoch_now plan u g ≡ epoch g = ap (λ (cs : List ℕ). epoch_of plan g (slice_index_or cs g 0)) r.configurations in
        let here : node.place.epoch ≤ epoch g = elim (r.in_run.kept.nodes g x (in_plan g l)).place [
          | inl zero' ↦ omega arith
          | inr p ↦ (let t : node.place.epoch ≤ epoch_now plan u g = p.there in omega (arith, t, now))
        ] in
        elim (cases_lt node.place.epoch (epoch g)) [
          | inl lower ↦ elim (r.step g) [
            | inl root ↦ (
                let first : epoch g ≡ 1 = ap (epoch_of plan g) root ∙ certified.root_epoch g (in_plan g l) in
                absurd (omega arith))
            | inr made ↦ (
                let (n, few, found) = has_number u.messages (StepTo g (place g)) made in
                let step : NodeStep = record { made = if node.whole then [] else CopyAsk g (epoch g) ∷ []; node = record node { place = place g; copies = []; install = None } } in
                let there : configuration_of world.authority g < plan.configurations g = known.kept.authority.there g (in_plan g l) in
                let is : ◌≡◌ {A = NodeAnswer} (reaction plan g x node (StepTo g (place g))) (Ok step) =
                rw (eq-eqb g g refl, lt-leb (epoch g) node.place.epoch lower, lt-ltb (configuration_of world.authority g) (plan.configurations g) there, eq-eqb (epoch g) (epoch g) refl) refl in
                let (reading, keeps, same) = delivered_on u r g x n (StepTo g (place g)) step l named found is (r.volume g x) (λ h. omega arith) (λ h. h) refl in
                (after plan u (Deliver g x n), reach_one plan u (Deliver g x n), reading, keeps, ap (λ (z : World). (z.nodes g x).place.epoch) same ∙ ap (λ (z : Node). z.place.epoch) (put_at-same u.nodes g x step.node)))
          ]
          | inr upper ↦ (u, reach_none plan u, r, (λ k y h. h), omega arith)
        ]

    -- the member reports
    fenced : (u : World) → IsReading u → (u.nodes g x).place.epoch ≡ epoch g → (later : World) × Reaches plan u later × IsReading later × Keeps u later × IsMade later (Report g (label v (epoch g)) x (u.nodes g x).contents)
    fenced u r at =
        let node : Node = u.nodes g x in
        let w : node.whole ≡ true = r.whole g x whole_there in
        let below : node.volume ≤ v = r.volume g x in
        let (n, few, found) = has_number u.messages (Fence g (label v (epoch g))) (r.fence g l) in
        let step : NodeStep = record { made = Report g (label v (epoch g)) x node.contents ∷ []; node = record node { volume = v } } in
        let is : ◌≡◌ {A = NodeAnswer} (reaction plan g x node (Fence g (label v (epoch g)))) (Ok step) =
        rw (eq-eqb g g refl, le-ltb (epoch g) node.place.epoch (omega arith), le-ltb node.place.epoch (epoch g) (omega arith), w, le-ltb v node.volume below) refl in
        let (reading, keeps, same) = delivered_on u r g x n (Fence g (label v (epoch g))) step l named found is (omega arith) (λ h. r.placed_on g x w) (λ h. h) refl in
        (after plan u (Deliver g x n), reach_one plan u (Deliver g x n), reading, keeps, subst (λ (z : World). IsMade z (Report g (label v (epoch g)) x node.contents)) (sym same) (inl refl))

    -- the recovery takes the report
    report_taken_by : (u : World) → IsReading u → (contents : Contents) → IsMade u (Report g (label v (epoch g)) x contents)
        → (later : World) × Reaches plan u later × IsReading later × Keeps u later × (senders (reports_of (later.clients v).groups g) x ≡ true)
    report_taken_by u r contents made =
        let client : Client = u.clients v in
        let from : From = record { sender = x; contents = contents } in
        let now : ClientGroup = group_of client.groups g in
        let counted : ClientGroup = record now { reports = with_first from now.reports } in
        let next : Client = record client { groups = slice_set client.groups g counted } in
        let (n, few, found) = has_number u.messages (Report g (label v (epoch g)) x contents) made in
        let copy : IsCopy u g contents = (r.in_run.kept.messages (Report g (label v (epoch g)) x contents) made).0 in
        let of_group : in_group g contents ≡ true = every_true (λ r. r.group == g) contents.records (λ s i. eq-eqb s.group g (copy.records s i).1) in
        let known_lineage : last_epoch contents.lineage ≤ u.authority.last_volume = ((r.in_run.kept.clients (last_epoch contents.lineage)).born (born_from_cut (u.clients (last_epoch contents.lineage)).stage copy.cut)).known in
        let other : last_epoch contents.lineage ≡ v → ⊥ = λ e. (
        let cut : has_cut (u.clients v).stage ≡ true = subst (λ k. has_cut (u.clients k).stage ≡ true) e copy.cut in
        true≢false (sym cut ∙ ap has_cut r.stage)) in
        let older : last_epoch contents.lineage < v = elim (cases_lt (last_epoch contents.lineage) v) [
          | inl less ↦ less
          | inr most ↦ absurd (other (let k : u.authority.last_volume ≤ v = r.last in omega arith))
        ] in
        let at : now.place.epoch ≡ epoch g = ap (λ (p : Place). p.epoch) (r.places g l) in
        let within : g < plan.groups = in_plan g l in
        let is_taken : report_taken v client g (label v (epoch g)) from ≡ next =
        rw (r.stage, at, eq-eqb (epoch g) (epoch g) refl, lt-ltb (last_epoch contents.lineage) v older) refl in
        let good : is_for v plan.groups (Report g (label v (epoch g)) x contents) ≡ true =
        and_from (v == v) _ (eq-eqb v v refl) (and_from (nat_lt g plan.groups) _ (lt-ltb g plan.groups within) (and_from (in_group g contents) (nat_lt x 64) of_group (lt-ltb x 64 small))) in
        let born : is_born client.stage ≡ true = ap is_born r.stage in
        let is : ◌≡◌ {A = ClientAnswer} (taken plan v client (Report g (label v (epoch g)) x contents)) (Ok (stays next)) =
        passes (is_for v plan.groups (Report g (label v (epoch g)) x contents)) NotAddressed (if_born client (Ok (stays (report_taken v client g (label v (epoch g)) from)))) good
        ∙ passes (is_born client.stage) NoActor (Ok (stays (report_taken v client g (label v (epoch g)) from))) born
        ∙ ap (λ (c : Client). Ok (stays c)) is_taken in
        let e : after plan u (Take v n) ≡ record u { clients = put u.clients v next; messages = u.messages } = took plan u v n (Report g (label v (epoch g)) x contents) (stays next) found is in
        let run_on : IsKeptWorld plan (after plan u (Take v n)) = event_kept plan certified u r.in_run.kept (Take v n) in
        let here : next ≡ put u.clients v next v = sym (put-same u.clients v next) in
        let grows : (k y : ℕ) → senders (reports_of client.groups k) y ≡ true → senders (reports_of next.groups k) y ≡ true = λ k y h.
        set-all no_group (λ j group. senders (reports_of client.groups j) y ≡ true → senders group.reports y ≡ true) client.groups g counted (senders_first from now.reports y) (λ j h. h) k h in
        let inside : g < length client.groups = (let s : length client.groups ≡ joined = r.groups in omega arith) in
        let has : senders (reports_of next.groups g) x ≡ true = subst (λ (group : ClientGroup). senders group.reports x ≡ true) (sym (set-here client.groups g counted inside)) (sender_first from now.reports) in (
          after plan u (Take v n),
          reach_one plan u (Take v n),
          subst IsReading (sym e) (record {
            in_run = subst (IsKeptWorld plan) e run_on;
            last = r.last;
            configurations = r.configurations;
            stage = ap (λ (c : Client). c.stage) (sym here) ∙ r.stage;
            groups = ap (λ (c : Client). length c.groups) (sym here) ∙ length-slice_set client.groups g counted ∙ r.groups;
            places = λ k h. ap (λ (c : Client). place_of c.groups k) (sym here) ∙ set-all no_group (λ j group. group.place ≡ place_of client.groups j) client.groups g counted refl (λ j. refl) k ∙ r.places k h;
            fence = r.fence;
            step = r.step;
            volume = r.volume;
            placed_on = r.placed_on;
            whole = r.whole;
            copied = r.copied;
            others = put-all (λ k (c : Client). (k ≡ v → ⊥) → c ≡ world.clients k) u.clients v next (λ other. absurd (other refl)) r.others;
          }),
          subst (λ z. Keeps u z) (sym e) (λ k y h. subst (λ (c : Client). senders (reports_of c.groups k) y ≡ true) here (grows k y h)),
          subst (λ (z : World). senders (reports_of (z.clients v).groups g) x ≡ true) (sym e) (subst (λ (c : Client). senders (reports_of c.groups g) x ≡ true) here has),
        )

    -- all three
    heard : (u : World) → IsReading u → (later : World) × Reaches plan u later × IsReading later × Keeps u later × (senders (reports_of (later.clients v).groups g) x ≡ true)
    heard u r =
        let (a, ua, ra, ka, at) = stepped u r in
        let (b, ab, rb, kb, made) = fenced a ra at in
        let (c, bc, rc, kc, has) = report_taken_by b rb (a.nodes g x).contents made in
        (c, reach_then plan u b c (reach_then plan u a b ua ab) bc, rc, (λ k y h. kc k y (kb k y (ka k y h))), has)

  -- the recovery has the reports of a group's whole members below a number
  abbrev pub Heard : World → ℕ → ℕ → Type 0
  Heard u g most = (x : ℕ) → x < most → whole_in world g x ≡ true → has_member (plan.configuration g (configuration_of world.authority g)) x ≡ true → senders (reports_of (u.clients v).groups g) x ≡ true

  pub named_of : (g x : ℕ) → g < joined → has_member (plan.configuration g (configuration_of world.authority g)) x ≡ true → is_named plan g x ≡ true
  named_of g x l h =
      and_from (nat_lt g plan.groups) _ (lt-ltb g plan.groups (in_plan g l))
      (some_below_true (plan.configurations g) (λ c. has_member (plan.configuration g c) x) (configuration_of world.authority g) (known.kept.authority.there g (in_plan g l)) h)

  pub one_heard : (g x : ℕ) → g < joined → x < 64 → (u : World) → IsReading u → (later : World) × Reaches plan u later × IsReading later × Keeps u later
      × (whole_in world g x ≡ true → has_member (plan.configuration g (configuration_of world.authority g)) x ≡ true → senders (reports_of (later.clients v).groups g) x ≡ true)
  one_heard g x l small u r =
      elim (cases_Bool (whole_in world g x)) [
        | inr un ↦ (u, reach_none plan u, r, (λ k y h. h), (λ w h. absurd (both_ways _ un w)))
        | inl w ↦ elim (cases_Bool (has_member (plan.configuration g (configuration_of world.authority g)) x)) [
          | inr un ↦ (u, reach_none plan u, r, (λ k y h. h), (λ w h. absurd (both_ways _ un h)))
          | inl m ↦ (let (later, reach, reading, keeps, has) = heard g x l (named_of g x l m) w small u r in (later, reach, reading, keeps, (λ a b. has)))
        ]
      ]

  pub group_heard : (g : ℕ) → g < joined → (most : ℕ) → most ≤ 64 → (u : World) → IsReading u → (later : World) × Reaches plan u later × IsReading later × Keeps u later × Heard later g most
  group_heard g l zero few u r = (u, reach_none plan u, r, (λ k y h. h), (λ x small. absurd (omega arith)))
  group_heard g l (suc most) few u r =
      let (a, ua, ra, ka, ha) = group_heard g l most (omega arith) u r in
      let (b, ab, rb, kb, hb) = one_heard g most l (omega arith) a ra in (
        b,
        reach_then plan u a b ua ab,
        rb,
        (λ k y h. kb k y (ka k y h)),
        (λ x small w m. elim (cases_lt x most) [
          | inl lower ↦ kb g x (ha x lower w m)
          | inr last ↦ (let e : x ≡ most = omega arith in
              subst (λ k. senders (reports_of (b.clients v).groups g) k ≡ true) (sym e)
              (hb (subst (λ k. whole_in world g k ≡ true) e w) (subst (λ k. has_member (plan.configuration g (configuration_of world.authority g)) k ≡ true) e m)))
        ]),
      )

  pub all_heard : (most : ℕ) → most ≤ joined → (u : World) → IsReading u → (later : World) × Reaches plan u later × IsReading later × ((g : ℕ) → g < most → Heard later g 64)
  all_heard zero few u r = (u, reach_none plan u, r, (λ g small. absurd (omega arith)))
  all_heard (suc most) few u r =
      let (a, ua, ra, ha) = all_heard most (omega arith) u r in
      let (b, ab, rb, kb, hb) = group_heard most (omega arith) 64 (omega arith) a ra in (
        b,
        reach_then plan u a b ua ab,
        rb,
        (λ g small. elim (cases_lt g most) [
          | inl lower ↦ (λ x s w m. kb g x (ha g lower x s w m))
          | inr last ↦ (let e : g ≡ most = omega arith in subst (λ k. Heard b k 64) (sym e) hb)
        ]),
      )

  -- ---- the cut

  -- the recovery has read a read set of each group
  pub has_read_all : ReadsMembers plan → ((g : ℕ) → g < joined → CanBeRead plan world g) → (u : World) → IsReading u → ((g : ℕ) → g < joined → Heard u g 64) → has_read plan (u.clients v) ≡ true
  has_read_all members readable u r heard_all =
      let client : Client = u.clients v in
      let read_one : (g : ℕ) → g < length client.groups → sat (place_configuration plan g (place_of client.groups g)).read (senders (reports_of client.groups g)) ≡ true = λ g small. (
      let l : g < joined = (let s : length client.groups ≡ joined = r.groups in omega arith) in
      let c : ℕ = configuration_of world.authority g in
      let own : sat (plan.configuration g c).read (λ x. whole_in world g x && (has_member (plan.configuration g c) x && nat_lt x 64)) ≡ true =
      members g c (whole_in world g) (in_plan g l) (known.kept.authority.there g (in_plan g l)) (readable g l) in
      let now : sat (plan.configuration g c).read (senders (reports_of client.groups g)) ≡ true =
      sat_more (plan.configuration g c).read (λ x. whole_in world g x && (has_member (plan.configuration g c) x && nat_lt x 64)) (senders (reports_of client.groups g))
      (λ x h. (
      let parts : (whole_in world g x ≡ true) × ((has_member (plan.configuration g c) x && nat_lt x 64) ≡ true) = and_parts (whole_in world g x) _ h in
      let both : (has_member (plan.configuration g c) x ≡ true) × (nat_lt x 64 ≡ true) = and_parts (has_member (plan.configuration g c) x) (nat_lt x 64) parts.1 in
      heard_all g l x (ltb-true x 64 both.1) parts.0 both.0)) own in
      subst (λ (p : Place). sat (place_configuration plan g p).read (senders (reports_of client.groups g)) ≡ true) (sym (r.places g l)) now) in
      every_below_true (length client.groups) (λ g. sat (place_configuration plan g (place_of client.groups g)).read (senders (reports_of client.groups g))) read_one

  pub can_cut : ReadsMembers plan → ((g : ℕ) → g < joined → CanBeRead plan world g) → (u : World) → IsReading u → ((g : ℕ) → g < joined → Heard u g 64) → CanCut plan u v
  can_cut members readable u r heard_all =
      let client : Client = u.clients v in
      let read : has_read plan client ≡ true = has_read_all members readable u r heard_all in
      let born : is_born client.stage ≡ true = ap is_born r.stage in
      let uncut : has_cut client.stage ≡ false = ap has_cut r.stage in
      let parent : Lineage = newest (reported client) in
      let records : List Redo = found_in parent (reported client) in
      let own : Lineage = extended parent v (cut_of records) plan.lal in
      let is : ◌≡◌ {A = ClientAnswer} (cut_client plan v client) (refuse_if (nat_lt (2 ^ 62) (last_start own)) LsnSpent (Ok own) >>= (λ lineage. Ok (cut_step v client (log_found records) lineage))) =
      rw (born, uncut, read) refl in
      elim (cases_Bool (nat_lt (2 ^ 62) (last_start own))) [
        | inl spent ↦ inr (is ∙ (rw spent refl))
        | inr free ↦ inl (cut_step v client (log_found records) own, is ∙ (rw free refl))
      ]

  -- ---- the first two events

  abbrev pub assigned_world : World
  assigned_world = record world { authority = record world.authority { last_volume = v }; messages = View v (places_now plan world.authority) ∷ world.messages }

  pub assigned_is : after plan world Assign ≡ assigned_world
  assigned_is =
      let is : ◌≡◌ {A = Result AuthorityStep Fault} (assigned plan world.authority) (Ok (record { made = View v (places_now plan world.authority) ∷ []; authority = record world.authority { last_volume = v } })) =
      rw (lt-leb 4294967295 world.authority.last_volume left) refl in
      ap (λ a. after_step world (of_authority world a)) is

  pub unborn_still : (world.clients v).stage ≡ Unborn
  unborn_still = unborn_from (world.clients v).stage (λ b. (let k : v ≤ world.authority.last_volume = ((known.kept.clients v).born b).known in omega arith))

  pub long : length (places_now plan world.authority) ≡ joined
  long = length-places_now plan world.authority

  pub are_there : are_places plan (places_now plan world.authority) ≡ true
  are_there =
      let born : plan.born ≤ joined = known.kept.authority.born in
      let within : joined ≤ plan.groups = known.kept.authority.within in
      let few : plan.born ≤ length (places_now plan world.authority) = omega (arith, long, born) in
      let most : length (places_now plan world.authority) ≤ plan.groups = omega (arith, long, within) in
      and_from (nat_le plan.born (length (places_now plan world.authority))) _ (le-leb plan.born (length (places_now plan world.authority)) few)
      (and_from (nat_le (length (places_now plan world.authority)) plan.groups) _ (le-leb (length (places_now plan world.authority)) plan.groups most)
      (every_below_true (length (places_now plan world.authority)) _ (λ g small. (
      let l : g < joined = (let s : length (places_now plan world.authority) ≡ joined = long in omega arith) in
      subst (λ (p : Place). is_configuration plan g p.configuration p.epoch ≡ true) (sym (place_in-places_now plan world.authority g l))
      (and_from (nat_lt (configuration_of world.authority g) (plan.configurations g)) _ (lt-ltb (configuration_of world.authority g) (plan.configurations g) (known.kept.authority.there g (in_plan g l))) (eq-eqb (epoch g) (epoch g) refl))))))

  abbrev pub first_step : ClientStep
  first_step = born_client v (places_now plan world.authority)

  abbrev pub read_world : World
  read_world = record assigned_world { clients = put world.clients v first_step.client; messages = added first_step.made assigned_world.messages }

  pub begins : (later : World) × Reaches plan world later × IsReading later
  begins =
      let (n, few, found) = has_number assigned_world.messages (View v (places_now plan world.authority)) (inl refl) in
      let taken_is : ◌≡◌ {A = ClientAnswer} (taken plan v (world.clients v) (View v (places_now plan world.authority))) (Ok first_step) =
      rw (eq-eqb v v refl, are_there, unborn_still) refl in
      let took_is : after plan assigned_world (Take v n) ≡ read_world = took plan assigned_world v n (View v (places_now plan world.authority)) first_step found taken_is in
      let whole_run : run plan world (Assign ∷ Take v n ∷ []) ≡ read_world = ap (λ z. after plan z (Take v n)) assigned_is ∙ took_is in
      let run_on : IsKeptWorld plan (run plan world (Assign ∷ Take v n ∷ [])) = run_kept plan certified (Assign ∷ Take v n ∷ []) world known in
      let here : first_step.client ≡ put world.clients v first_step.client v = sym (put-same world.clients v first_step.client) in (
        read_world,
        (Assign ∷ Take v n ∷ [], whole_run),
        record {
          in_run = subst (IsKeptWorld plan) whole_run run_on;
          last = omega arith;
          configurations = refl;
          stage = ap (λ (c : Client). c.stage) (sym here);
          groups = ap (λ (c : Client). length c.groups) (sym here) ∙ length_mapped newly_at (places_now plan world.authority) ∙ long;
          places = λ g l. ap (λ (c : Client). place_of c.groups g) (sym here) ∙ ap (λ (k : ClientGroup). k.place) (group_of-new (places_now plan world.authority) g) ∙ place_in-places_now plan world.authority g l;
          fence = λ g l. (
              let small : g < length (places_now plan world.authority) = (let s : length (places_now plan world.authority) ≡ joined = long in omega arith) in
              subst (λ (p : Place). IsIn (Fence g (label v p.epoch)) (added first_step.made assigned_world.messages)) (place_in-places_now plan world.authority g l)
              (IsIn-new first_step.made assigned_world.messages _ (each_has (length (places_now plan world.authority)) (λ k. Fence k (label_of v (place_in (places_now plan world.authority)) k)) g small)));
          step = λ g. elim (steps g) [ inl root ↦ inl root | inr made ↦ inr (IsIn-kept first_step.made assigned_world.messages _ (inr made)) ];
          volume = λ g x. (let b : (world.nodes g x).volume ≤ world.authority.last_volume = volumes.nodes g x in omega arith);
          placed_on = placed;
          whole = λ g x w. w;
          copied = λ g x. refl;
          others = put-all (λ k (c : Client). (k ≡ v → ⊥) → c ≡ world.clients k) world.clients v first_step.client (λ other. absurd (other refl)) (λ k other. refl);
        },
      )

  pub recovers : ReadsMembers plan → ((g : ℕ) → g < joined → CanBeRead plan world g) → (more : List Event) × CanCut plan (run plan world more) v
  recovers members readable =
      let (u, wu, ru) = begins in
      let (end, ue, re, heard_all) = all_heard joined (omega arith) u ru in
      let (more, is) = reach_then plan world u end wu ue in
      (more, subst (λ z. CanCut plan z v) (sym is) (can_cut members readable end re heard_all))

-- the claims of a plan say that no other members count
pub reads_members : (plan : Plan) → KeepsClaims plan → ReadsMembers plan
reads_members plan claims group c readers there below h = grind (arith, common_steps, sat-own, lt-ltb, Bool)

pub readable_volumes_recover : ReadableVolumesRecover
readable_volumes_recover plan claims events readable left =
    let certified : IsCertified plan = claims_certify plan claims in
    let world : World = run plan (opening plan) events in
    let known : IsKeptWorld plan world = run_kept plan certified events (opening plan) (opening_kept plan certified) in
    let (placed, steps) = steps_known plan certified events in
    recovers plan certified world known (volumes_known plan certified events) placed steps left (reads_members plan claims) readable
