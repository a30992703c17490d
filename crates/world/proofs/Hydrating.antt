-- While a recovery installs its log, a member that isn't whole becomes whole from the copies of a read set that has the log.
use Rattle.std.proofs.Common.{◌≡◌, ℕ, zero, suc, ◌+◌, ◌-◌, ◌<◌, ◌≤◌, true, false, ◌&&◌, ◌==◌, nat_lt, ◌⊎◌, if◌then◌else◌, List, [], ◌∷◌, Some, None, Option, Ok, length, refl, sym, ap, ◌∙◌, subst, inl, inr, arith, slice_index_or}
use Rattle.std.proofs.lemmas.Bool.{cases_Bool, cases_lt, and_from, both_ways, true≢false, eqb-true, eq-eqb, ne_eqb, lt-ltb, le-ltb, lt-leb}
use Rattle.volume_model.specs.Common.{IsIn, added, put_at, Members, sat, Redo, of_group, Contents, Lineage, last_epoch, newest, Piece, KeptPiece, Pieces, Copy, brought, contents_in, copied_by, in_pieces, is_bad_piece, is_complete, is_piece, piece_of, pieces_from, pieces_of, with_copy, with_series, first_piece, Plan, IsCertified, epoch_of, has_member, is_named, Place, Message, StepTo, CopyAsk, CopyReport, NodeStep, NodeAnswer, gathered, has_configuration, hydrated, in_group, lineage_epoch, most_copies, most_records, reaction, restarted, whole_node, World, Event, after, after_step, configuration_of, groups_joined, if_there, of_node, Deliver, Hydrate, Restart}
use Rattle.volume_model.specs.Lineage.{found_in}
use Rattle.volume_model.specs.Node.{Node}
use Rattle.volume_model.proofs.Above.{ancestor}
use Rattle.volume_model.proofs.Added.{epoch_positive}
use Rattle.volume_model.proofs.Basics.{put_at-all, map-has}
use Rattle.volume_model.proofs.FormulaLaws.{sat-some, sat_more}
use Rattle.volume_model.proofs.Invariant.{IsMade, epoch_now, log_of, lineage_of}
use Rattle.volume_model.proofs.Kept.{IsWhole, NodeKept}
use Rattle.volume_model.proofs.NodeSteps.{all_of, put_at-same}
use Rattle.volume_model.proofs.Ordered.{found_in-ordered, in_order, of_group-ordered}
use Rattle.volume_model.proofs.Pieces.{brought-from, brought-has, complete_some, copied_by-has, part_of_piece}
use Rattle.volume_model.proofs.Records.{found_in-from, newest-of, of_group-from, of_group-has}
use Rattle.world.proofs.Readable.{HasPlace, IsIn-kept, IsIn-new, Reaches, delivered, each_has, every_true, has_number, reach_none, reach_then, some_below_true}
use Rattle.world.proofs.Installing.{IsInstalled, IsInstalling, IsReady, IsRecovering, IsUnstarted, KeepsReady, at, epoch_at, is_member, node_on, place_at}
use Rattle.world.proofs.Asked.{HasWholeRoots}
use Rattle.world.proofs.Copies.{HasPieces, all_kept, complete_counts, copy_first, copy_from, copy_next, copy_other, first_kept, fits_none, fits_some, included_shorter, next_kept, some_piece, valid_piece}
use Rattle.std.proofs.lemmas.Grind.{common_steps}

-- the world after a step of one node
abbrev pub changed : World → ℕ → ℕ → NodeStep → World
changed u g x step = record u { nodes = put_at u.nodes g x step.node; messages = added step.made u.messages }

-- the node of another member stays
pub put_at-other : {A : Type 0} (f : ℕ → ℕ → A) (g x : ℕ) (value : A) (h y : ℕ) → (y ≡ x → ⊥) → put_at f g x value h y ≡ f h y
put_at-other f g x value h y n =
    elim (cases_Bool (h == g)) [
      | inl e ↦ rw (e, ne_eqb y x n) refl
      | inr e ↦ rw e refl
    ]

-- a node of another group stays
pub put_at-elsewhere : {A : Type 0} (f : ℕ → ℕ → A) (g x : ℕ) (value : A) (h y : ℕ) → (h ≡ g → ⊥) → put_at f g x value h y ≡ f h y
put_at-elsewhere f g x value h y n = rw (ne_eqb h g n) refl

-- what holds of each node of a group still holds after one was put
pub put_at-in : {A : Type 0} (P : ℕ → A → Type 0) (f : ℕ → ℕ → A) (g x : ℕ) (value : A) → P x value → ((y : ℕ) → P y (f g y)) → (y : ℕ) → P y (put_at f g x value g y)
put_at-in P f g x value new old y =
    elim (cases_Bool (y == x)) [
      | inl e ↦ rw (eq-eqb g g refl, e) (subst (λ z. P z value) (sym (eqb-true y x e)) new)
      | inr e ↦ rw (eq-eqb g g refl, e) (old y)
    ]

-- each node of a group can still make this many copies
abbrev pub CanCopyIn : World → ℕ → ℕ → Type 0
CanCopyIn u g n = (y : ℕ) → (u.nodes g y).copied + n ≤ most_copies

-- the nodes of the other groups have made as many copies as before
abbrev pub CopiesElsewhere : ℕ → World → World → Type 0
CopiesElsewhere g u later = (h y : ℕ) → (h ≡ g → ⊥) → (later.nodes h y).copied ≡ (u.nodes h y).copied

copies_elsewhere_then : (g : ℕ) (a b c : World) → CopiesElsewhere g a b → CopiesElsewhere g b c → CopiesElsewhere g a c
copies_elsewhere_then g a b c p q h y n = q h y n ∙ p h y n

-- a step of one node of the group
copies_elsewhere_on : (u : World) (g x : ℕ) (step : NodeStep) → CopiesElsewhere g u (changed u g x step)
copies_elsewhere_on u g x step h y n = ap (λ (z : Node). z.copied) (put_at-elsewhere u.nodes g x step.node h y n)

-- none are pieces of a series
nothing_kept : (v : ℕ) (pieces : Pieces) → ◌≡◌ {A = Option Pieces} None (Some pieces) → pieces.series ≡ v → ⊥
nothing_kept v pieces h e = cc

-- an event of a named member that isn't refused
pub answered : (plan : Plan) (u : World) (g x : ℕ) (answer : NodeAnswer) (step : NodeStep) → g < groups_joined u.authority → is_named plan g x ≡ true → answer ≡ Ok step
    → after_step u (of_node u g x (if_there plan (groups_joined u.authority) g x answer)) ≡ changed u g x step
answered plan u g x answer step joined named is = grind (arith, common_steps)

-- a node whose copies satisfy the read expression of its place, and whose found records fit, becomes whole
pub hydrated_is : (plan : Plan) (g x : ℕ) (node : Node) → node.whole ≡ false → has_configuration plan g x node ≡ true
    → sat (plan.configuration g node.place.configuration).read (copied_by node.copies) ≡ true
    → length (found_in (newest (brought node.copies)) (brought node.copies)) ≤ most_records
    → ◌≡◌ {A = NodeAnswer} (hydrated plan g x node) (Ok (record { made = []; node = whole_node node (all_of node.copies) }))
unfolding gathered
hydrated_is plan g x node un has reads few = grind (arith, common_steps)

module _ (plan : Plan) (certified : IsCertified plan) (v : ℕ) (now : List ℕ) (line : Lineage) (records : List Redo) where
  -- what holds while the recovery installs, what a later world keeps of it, and who is ready or installed
  abbrev Installs : World → Type 0
  Installs u = IsInstalling plan v now line records u

  abbrev Keeps : World → World → Type 0
  Keeps u later = KeepsReady plan v now line records u later

  abbrev Ready : World → ℕ → ℕ → Type 0
  Ready u g x = IsReady plan v now line records u g x

  abbrev Installed : World → ℕ → ℕ → Type 0
  Installed u g x = IsInstalled plan v now line records u g x

  -- a world keeps what it has, and so does one that is reached in two steps
  keeps_same : (u : World) → Keeps u u
  keeps_same u = record { ready = λ g x h. h; whole = λ g x h. h }

  keeps_then : (a b c : World) → Keeps a b → Keeps b c → Keeps a c
  keeps_then a b c h k = record { ready = λ g x r. k.ready g x (h.ready g x r); whole = λ g x w. k.whole g x (h.whole g x w) }

  -- ---- what is so of each group

  module _ (u : World) (i : Installs u) (g : ℕ) (l : g < length now) where
    -- the group is one of the plan, and has joined, and it has its configuration
    in_plan : g < plan.groups
    in_plan =
        let w : groups_joined u.authority ≤ plan.groups = i.recovering.in_run.kept.authority.within in
        let s : groups_joined u.authority ≡ length now = ap length i.recovering.configurations in
        omega arith

    has_joined : g < groups_joined u.authority
    has_joined = let s : groups_joined u.authority ≡ length now = ap length i.recovering.configurations in omega arith

    is_there : at plan v now line records g < plan.configurations g
    is_there = subst (λ (cs : List ℕ). slice_index_or cs g 0 < plan.configurations g) i.recovering.configurations (i.recovering.in_run.kept.authority.there g in_plan)

    -- the group's membership epoch is positive
    is_positive : 1 ≤ epoch_at plan v now line records g
    is_positive = epoch_positive plan certified g (at plan v now line records g) in_plan is_there

    -- a member of the configuration is named
    is_named_there : (x : ℕ) → is_member plan v now line records g x ≡ true → is_named plan g x ≡ true
    is_named_there x m =
        and_from (nat_lt g plan.groups) _ (lt-ltb g plan.groups in_plan)
        (some_below_true (plan.configurations g) (λ c. has_member (plan.configuration g c) x) (at plan v now line records g) is_there m)

    -- no node is at a later place, and one that is at the present epoch is at the present place
    is_at : (x : ℕ) → ((u.nodes g x).place.epoch < epoch_at plan v now line records g) ⊎ ((u.nodes g x).place ≡ place_at plan v now line records g)
    is_at x =
        let place : Place = (u.nodes g x).place in
        let positive : 1 ≤ epoch_at plan v now line records g = is_positive in
        let same : epoch_now plan u g ≡ epoch_at plan v now line records g = ap (λ (cs : List ℕ). epoch_of plan g (slice_index_or cs g 0)) i.recovering.configurations in
        elim (i.recovering.in_run.kept.nodes g x in_plan).place [
          | inl zero' ↦ inl (omega arith)
          | inr p ↦ elim (cases_lt place.epoch (epoch_at plan v now line records g)) [
            | inl lower ↦ inl lower
            | inr upper ↦ (
                let t : place.epoch ≤ epoch_now plan u g = p.there in
                let e : place.epoch ≡ epoch_at plan v now line records g = omega (arith, t, same, upper) in
                let none : epoch_now plan u g - place.epoch ≡ 0 = omega (arith, t, same, upper) in
                let c : place.configuration ≡ at plan v now line records g =
                p.configuration ∙ ap (λ (d : ℕ). ancestor plan g d (configuration_of u.authority g)) none ∙ ap (λ (cs : List ℕ). slice_index_or cs g 0) i.recovering.configurations in
                inr (λ j. record { configuration = c j; epoch = e j }))
          ]
        ]

  -- ---- steps of one node

  -- a step of a node that stays whole and installed, if it was
  step_on : (u : World) → Installs u → (event : Event) (g x : ℕ) (step : NodeStep) → after plan u event ≡ changed u g x step
      → step.node.volume ≤ v → HasPlace g x step.node
      → (step.node.whole ≡ false → 1 ≤ step.node.place.epoch → IsIn (CopyAsk g step.node.place.epoch) (added step.made u.messages))
      → IsUnstarted plan v now line records step.node
      → ((u.nodes g x).whole ≡ true → step.node.whole ≡ true)
      → (Installed u g x → (lineage_epoch step.node ≡ v) × (step.node.place.epoch ≡ epoch_at plan v now line records g))
      → Installs (changed u g x step) × Keeps u (changed u g x step)
  step_on u i event g x step e volume placed asked unstarted whole installed = (
    record {
      recovering = subst (IsRecovering plan v now line records) e (node_on plan certified v now line records u i.recovering event g x step.node step.made e volume placed asked);
      unstarted = put_at-all (λ k y node. IsUnstarted plan v now line records node) u.nodes g x step.node unstarted i.unstarted;
    },
    record {
      ready = λ k y r. (
          let h : (Installed u k y → (lineage_epoch (put_at u.nodes g x step.node k y) ≡ v) × ((put_at u.nodes g x step.node k y).place.epoch ≡ epoch_at plan v now line records k)) =
          put_at-all (λ k y (node : Node). Installed u k y → (lineage_epoch node ≡ v) × (node.place.epoch ≡ epoch_at plan v now line records k)) u.nodes g x step.node installed (λ k y was. (was.lineage, was.epoch)) k y in
          let w : (u.nodes k y).whole ≡ true → (put_at u.nodes g x step.node k y).whole ≡ true =
          put_at-all (λ k y (node : Node). (u.nodes k y).whole ≡ true → node.whole ≡ true) u.nodes g x step.node whole (λ k y was. was) k y in
          (record { whole = w r.0.whole; lineage = (h r.0).0; epoch = (h r.0).1 }, r.1));
      whole = put_at-all (λ k y (node : Node). (u.nodes k y).whole ≡ true → node.whole ≡ true) u.nodes g x step.node whole (λ k y was. was);
    },
  )

  -- ---- the member's place

  module _ (g x : ℕ) (l : g < length now) (member : is_member plan v now line records g x ≡ true) where
    -- the member learns of the group's step, if it hasn't
    placed : (u : World) → Installs u → HasWholeRoots plan u → (u.nodes g x).whole ≡ false → (n : ℕ) → CanCopyIn u g n
        → (later : World) × Reaches plan u later × Installs later × Keeps u later × ((later.nodes g x).whole ≡ false) × ((later.nodes g x).place ≡ place_at plan v now line records g) × CanCopyIn later g n
        × CopiesElsewhere g u later
    placed u i roots un n spare =
        elim (is_at u i g l x) [
          | inr same ↦ (u, reach_none plan u, i, keeps_same u, un, same, spare, λ h y k. refl)
          | inl lower ↦ elim (i.recovering.step g) [
            | inl root ↦ absurd (both_ways _ un (roots g x (subst (λ c. has_member (plan.configuration g c) x ≡ true) root member)))
            | inr made ↦ (
                let node : Node = u.nodes g x in
                let place : Place = place_at plan v now line records g in
                let (number, few, found) = has_number u.messages (StepTo g place) made in
                let step : NodeStep = record { made = if node.whole then [] else CopyAsk g place.epoch ∷ []; node = record node { place = place; copies = []; install = None } } in
                let is : ◌≡◌ {A = NodeAnswer} (reaction plan g x node (StepTo g place)) (Ok step) =
                rw (eq-eqb g g refl, lt-leb place.epoch node.place.epoch lower, lt-ltb (at plan v now line records g) (plan.configurations g) (is_there u i g l), eq-eqb place.epoch place.epoch refl) refl in
                let e : after plan u (Deliver g x number) ≡ changed u g x step = delivered plan u g x number (StepTo g place) step (has_joined u i g l) (is_named_there u i g l x member) found is in
                let asking : IsIn (CopyAsk g place.epoch) step.made = rw un (inl refl) in
                let (installs, keeps) = step_on u i (Deliver g x number) g x step e (i.recovering.volume g x) (λ w. absurd (both_ways _ un w)) (λ a b. IsIn-new step.made u.messages _ asking) (nothing_kept v) (λ h. h) (λ was. absurd (both_ways _ un was.whole)) in (
                  changed u g x step,
                  (Deliver g x number ∷ [], e),
                  installs,
                  keeps,
                  ap (λ (z : Node). z.whole) (put_at-same u.nodes g x step.node) ∙ un,
                  ap (λ (z : Node). z.place) (put_at-same u.nodes g x step.node),
                  put_at-in (λ y (z : Node). z.copied + n ≤ most_copies) u.nodes g x step.node (spare x) spare,
                  copies_elsewhere_on u g x step,
                ))
          ]
        ]

    -- and drops the copies that it kept
    restarts : (u : World) → Installs u → (u.nodes g x).whole ≡ false → (n : ℕ) → CanCopyIn u g n
        → (later : World) × Reaches plan u later × Installs later × Keeps u later × (later.nodes g x ≡ restarted (u.nodes g x)) × CanCopyIn later g n × CopiesElsewhere g u later
    restarts u i un n spare =
        let node : Node = u.nodes g x in
        let step : NodeStep = record { made = []; node = restarted node } in
        let e : after plan u (Restart g x) ≡ changed u g x step = answered plan u g x (Ok step) step (has_joined u i g l) (is_named_there u i g l x member) refl in
        let (installs, keeps) = step_on u i (Restart g x) g x step e (i.recovering.volume g x) (λ w. absurd (both_ways _ un w)) (i.recovering.asked g x) (nothing_kept v) (λ h. h) (λ was. absurd (both_ways _ un was.whole)) in (
          changed u g x step,
          (Restart g x ∷ [], e),
          installs,
          keeps,
          put_at-same u.nodes g x step.node,
          put_at-in (λ y (z : Node). z.copied + n ≤ most_copies) u.nodes g x step.node (spare x) spare,
          copies_elsewhere_on u g x step,
        )

  -- ---- what the recovery found of a group

  -- contents of the recovery's lineage, with records of the group that it found
  abbrev pub IsFound : ℕ → Contents → Type 0
  IsFound g c = (c.lineage ≡ line) × ((r : Redo) → IsIn r c.records → IsIn r (of_group g records))

  -- what a member holds that has the lineage
  installed_found : (u : World) → Installs u → (g x : ℕ) → g < length now → Installed u g x
      → IsFound g (u.nodes g x).contents × (length (u.nodes g x).contents.records ≤ length (of_group g records))
  installed_found u i g x l has =
      let q : Contents = (u.nodes g x).contents in
      let whole : IsWhole plan i.recovering.in_run.held u g x (u.nodes g x) = (i.recovering.in_run.kept.nodes g x (in_plan u i g l)).whole has.whole in
      let line_is : q.lineage ≡ line = whole.copy.lineage ∙ ap (λ k. lineage_of u k) has.lineage ∙ i.recovering.lineage in
      let log_is : log_of u (last_epoch q.lineage) ≡ records = ap (λ k. log_of u k) has.lineage ∙ i.recovering.log in
      let within : (r : Redo) → IsIn r q.records → IsIn r (of_group g records) = λ r k. of_group-has g records r (subst (λ log. IsIn r log) log_is (whole.copy.records r k).0) (whole.copy.records r k).1 in
      ((line_is, within), included_shorter q.records (of_group g records) (in_order q.records whole.ordered) (in_order (of_group g records) (of_group-ordered g records)) within)

  -- a piece of such contents is such contents
  piece_found : (g : ℕ) (q : Contents) (k : ℕ) → IsFound g q → IsFound g (piece_of q k)
  piece_found g q k found =
      (found.0, λ r i. found.1 r (part_of_piece q (record { number = k; of = pieces_of (length q.records) }) (piece_of q k) (record { of = refl; is = refl }) r i))

  -- such contents are of the group
  found_in_group : (g : ℕ) (c : Contents) → IsFound g c → in_group g c ≡ true
  found_in_group g c found = every_true (λ r. r.group == g) c.records (λ r i. eq-eqb r.group g (of_group-from g records r (found.1 r i)).1)

  -- ---- the copies of a read set

  -- ready members of a group
  abbrev pub AreReady : World → ℕ → Members → Type 0
  AreReady u g readers = (y : ℕ) → readers y ≡ true → (y < 64) × (is_member plan v now line records g y ≡ true) × Ready u g y

  -- the member that gathers copies, the world in which it began, the copies that each node can make when it ends, and those that send
  module _ (start : World) (n g x : ℕ) (l : g < length now) (member : is_member plan v now line records g x ≡ true)
      (few : length (of_group g records) ≤ most_records) (readers : Members) (ready : AreReady start g readers) where
    -- a member that sends its copy
    abbrev IsSender : ℕ → Type 0
    IsSender y = readers y ≡ true

    -- the node keeps a complete copy of the sender
    abbrev IsBrought : World → ℕ → Type 0
    IsBrought u y = (pieces : Pieces) × (pieces_from (u.nodes g x).copies y ≡ Some pieces) × (is_complete pieces ≡ true)

    -- the node has complete copies of the senders below one number, and nothing of those from another number on
    record IsGathering (m past : ℕ) (u : World) : Type 0 where
      reached : Reaches plan start u
      installs : Installs u
      keeps : Keeps start u
      unwhole : (u.nodes g x).whole ≡ false
      place : (u.nodes g x).place ≡ place_at plan v now line records g
      spare : CanCopyIn u g n
      unused : (y : ℕ) → past ≤ y → (u.nodes g y).copied + suc n ≤ most_copies
      elsewhere : CopiesElsewhere g start u
      found : (copy : Copy) → IsIn copy (u.nodes g x).copies → (c : Contents) → IsIn c (contents_in copy.pieces) → IsFound g c
      none : (y : ℕ) → past ≤ y → pieces_from (u.nodes g x).copies y ≡ None
      brought_all : (y : ℕ) → y < m → IsSender y → IsBrought u y

    -- who isn't a sender is passed over
    skipped : (m : ℕ) (u : World) → IsGathering m m u → (IsSender m → ⊥) → IsGathering (suc m) (suc m) u
    skipped m u gathers no_sender = record {
      reached = gathers.reached;
      installs = gathers.installs;
      keeps = gathers.keeps;
      unwhole = gathers.unwhole;
      place = gathers.place;
      spare = gathers.spare;
      unused = λ y past. gathers.unused y (omega arith);
      elsewhere = gathers.elsewhere;
      found = gathers.found;
      none = λ y past. gathers.none y (omega arith);
      brought_all = λ y below sender. elim (cases_lt y m) [
        | inl lower ↦ gathers.brought_all y lower sender
        | inr last ↦ (let e : y ≡ m = omega arith in absurd (no_sender (subst IsSender e sender)))
      ];
    }

    -- a sender that is ready
    module _ (m : ℕ) (sender : IsSender m) where
      -- the sender's copy: what it holds, of a series, with all of its pieces made
      record IsSent (q : Contents) (series : ℕ) (u : World) : Type 0 where
        found : IsFound g q
        short : length q.records ≤ most_records
        made : (k : ℕ) → k < pieces_of (length q.records)
            → IsMade u (CopyReport g (epoch_at plan v now line records g) m series (record { number = k; of = pieces_of (length q.records) }) (piece_of q k))

      -- the sender makes a copy
      sent : (u : World) → IsGathering m m u → (later : World) × IsGathering m (suc m) later × (q : Contents) × (series : ℕ) × IsSent q series later × (pieces_from (later.nodes g x).copies m ≡ None)
      sent u gathers =
          let i : Installs u = gathers.installs in
          let node : Node = u.nodes g m in
          let epoch : ℕ = epoch_at plan v now line records g in
          let q : Contents = node.contents in
          let series : ℕ = suc node.copied in
          let now_ready : Ready u g m = gathers.keeps.ready g m (ready m sender).2 in
          let at_epoch : node.place.epoch ≡ epoch = now_ready.0.epoch in
          let own : (u.nodes g x).place.epoch ≡ epoch = ap (λ (p : Place). p.epoch) gathers.place in
          let positive : 1 ≤ epoch = is_positive u i g l in
          let asked : IsMade u (CopyAsk g epoch) = subst (λ k. IsMade u (CopyAsk g k)) own (i.recovering.asked g x gathers.unwhole (omega arith)) in
          let (number, low, numbered_is) = has_number u.messages (CopyAsk g epoch) asked in
          let made : List Message = in_pieces q (CopyReport g epoch m series) in
          let step : NodeStep = record { made = made; node = record node { copied = series } } in
          let room : node.copied + suc n ≤ most_copies = gathers.unused m (omega arith) in
          let is : ◌≡◌ {A = NodeAnswer} (reaction plan g m node (CopyAsk g epoch)) (Ok step) =
          rw (eq-eqb g g refl, le-ltb epoch node.place.epoch (omega arith), le-ltb node.place.epoch epoch (omega arith), now_ready.0.whole, lt-leb most_copies node.copied (omega arith)) refl in
          let e : after plan u (Deliver g m number) ≡ changed u g m step = delivered plan u g m number (CopyAsk g epoch) step (has_joined u i g l) (is_named_there u i g l m (ready m sender).1) numbered_is is in
          let (installs, keeps) = step_on u i (Deliver g m number) g m step e (i.recovering.volume g m) (i.recovering.placed_on g m) (λ a b. IsIn-kept made u.messages _ (i.recovering.asked g m a b)) (i.unstarted g m) (λ h. h) (λ was. (was.lineage, was.epoch)) in
          let apart : x ≡ m → ⊥ = λ same. both_ways (u.nodes g x).whole gathers.unwhole (ap (λ k. (u.nodes g k).whole) same ∙ now_ready.0.whole) in
          let same : put_at u.nodes g m step.node g x ≡ u.nodes g x = put_at-other u.nodes g m step.node g x apart in
          let later : World = changed u g m step in
          let holds = installed_found u i g m l now_ready.0 in (
            later,
            record {
              reached = reach_then plan start u later gathers.reached (Deliver g m number ∷ [], e);
              installs = installs;
              keeps = keeps_then start u later gathers.keeps keeps;
              unwhole = ap (λ (z : Node). z.whole) same ∙ gathers.unwhole;
              place = ap (λ (z : Node). z.place) same ∙ gathers.place;
              spare = put_at-in (λ y (z : Node). z.copied + n ≤ most_copies) u.nodes g m step.node (omega arith) gathers.spare;
              unused = put_at-in (λ y (z : Node). suc m ≤ y → z.copied + suc n ≤ most_copies) u.nodes g m step.node (λ past. absurd (omega arith)) (λ y past. gathers.unused y (omega arith));
              elsewhere = copies_elsewhere_then g start u later gathers.elsewhere (copies_elsewhere_on u g m step);
              found = subst (λ (z : Node). (copy : Copy) → IsIn copy z.copies → (c : Contents) → IsIn c (contents_in copy.pieces) → IsFound g c) (sym same) gathers.found;
              none = λ y past. ap (λ (z : Node). pieces_from z.copies y) same ∙ gathers.none y (omega arith);
              brought_all = λ y below is_sender. (let (pieces, has, complete) = gathers.brought_all y below is_sender in (pieces, ap (λ (z : Node). pieces_from z.copies y) same ∙ has, complete));
            },
            q,
            series,
            record {
              found = holds.0;
              short = omega (arith, holds.1, few);
              made = λ k below. IsIn-new made u.messages _ (each_has (pieces_of (length q.records)) (λ k. CopyReport g epoch m series (record { number = k; of = pieces_of (length q.records) }) (piece_of q k)) k below);
            },
            ap (λ (z : Node). pieces_from z.copies m) same ∙ gathers.none m (omega arith),
          )

      module _ (q : Contents) (series : ℕ) where
        -- the number of pieces
        abbrev of : ℕ
        of = pieces_of (length q.records)

        -- the sender's pieces below a number came
        abbrev HasCome : World → ℕ → Type 0
        HasCome u k = ((k ≡ 0) × (pieces_from (u.nodes g x).copies m ≡ None)) ⊎ ((pieces : Pieces) × (pieces_from (u.nodes g x).copies m ≡ Some pieces) × HasPieces series of k pieces)

        -- one piece more comes
        comes : (u : World) → IsGathering m (suc m) u → IsSent q series u → (k : ℕ) → k < of → HasCome u k → (later : World) × IsGathering m (suc m) later × IsSent q series later × HasCome later (suc k)
        comes u gathers sends k below come =
            let i : Installs u = gathers.installs in
            let node : Node = u.nodes g x in
            let epoch : ℕ = epoch_at plan v now line records g in
            let piece : Piece = record { number = k; of = of } in
            let c : Contents = piece_of q k in
            let own : node.place.epoch ≡ epoch = ap (λ (p : Place). p.epoch) gathers.place in
            let (number, low, numbered_is) = has_number u.messages (CopyReport g epoch m series piece c) (sends.made k below) in
            let copies : List Copy = with_copy m series piece c node.copies in
            let step : NodeStep = record { made = []; node = record node { copies = copies } } in
            let valid : is_piece piece c ≡ true = valid_piece q k sends.short below in
            let found_piece : IsFound g c = piece_found g q k sends.found in
            let fits : is_bad_piece (pieces_from node.copies m) series piece c ≡ false = elim come [
              | inl first ↦ (let e : pieces_from node.copies m ≡ None = first.1 in rw e (fits_none series piece c valid))
              | inr has ↦ (let (pieces, e, kept) = has in rw e (fits_some pieces series of k c kept valid))
            ] in
            let is : ◌≡◌ {A = NodeAnswer} (reaction plan g x node (CopyReport g epoch m series piece c)) (Ok step) =
            rw (eq-eqb g g refl, found_in_group g c found_piece, lt-ltb m 64 (ready m sender).0, gathers.unwhole, le-ltb epoch node.place.epoch (omega arith), le-ltb node.place.epoch epoch (omega arith), fits) refl in
            let e : after plan u (Deliver g x number) ≡ changed u g x step = delivered plan u g x number (CopyReport g epoch m series piece c) step (has_joined u i g l) (is_named_there u i g l x member) numbered_is is in
            let (installs, keeps) = step_on u i (Deliver g x number) g x step e (i.recovering.volume g x) (i.recovering.placed_on g x) (i.recovering.asked g x) (i.unstarted g x) (λ h. h) (λ was. (was.lineage, was.epoch)) in
            let later : World = changed u g x step in
            let same : put_at u.nodes g x step.node g x ≡ step.node = put_at-same u.nodes g x step.node in (
              later,
              record {
                reached = reach_then plan start u later gathers.reached (Deliver g x number ∷ [], e);
                installs = installs;
                keeps = keeps_then start u later gathers.keeps keeps;
                unwhole = ap (λ (z : Node). z.whole) same ∙ gathers.unwhole;
                place = ap (λ (z : Node). z.place) same ∙ gathers.place;
                spare = put_at-in (λ y (z : Node). z.copied + n ≤ most_copies) u.nodes g x step.node (gathers.spare x) gathers.spare;
                unused = put_at-in (λ y (z : Node). suc m ≤ y → z.copied + suc n ≤ most_copies) u.nodes g x step.node (gathers.unused x) gathers.unused;
                elsewhere = copies_elsewhere_then g start u later gathers.elsewhere (copies_elsewhere_on u g x step);
                found = subst (λ (z : Node). (copy : Copy) → IsIn copy z.copies → (d : Contents) → IsIn d (contents_in copy.pieces) → IsFound g d) (sym same)
                    (λ copy j d part. elim (copy_from m series piece c node.copies copy d j part) [
                      | inl is_new ↦ subst (IsFound g) (sym is_new) found_piece
                      | inr was ↦ (let (old, o, p) = was in gathers.found old o d p)
                    ]);
                none = λ y past. ap (λ (z : Node). pieces_from z.copies y) same ∙ copy_other m series piece c node.copies y (λ z. omega arith) ∙ gathers.none y past;
                brought_all = λ y lower is_sender. (let (pieces, has, complete) = gathers.brought_all y lower is_sender in
                    (pieces, ap (λ (z : Node). pieces_from z.copies y) same ∙ copy_other m series piece c node.copies y (λ z. omega arith) ∙ has, complete));
              },
              record { found = sends.found; short = sends.short; made = sends.made },
              elim come [
                | inl first ↦ (let zero' : 0 ≡ k = sym first.0 in
                    inr (
                      first_piece series piece c,
                      ap (λ (z : Node). pieces_from z.copies m) same ∙ copy_first m series piece c node.copies first.1,
                      subst (λ j. HasPieces series of (suc j) (first_piece series (record { number = j; of = of }) c)) zero' (first_kept series of c),
                    ))
                | inr has ↦ (let (pieces, was, kept) = has in
                    inr (with_series pieces series piece c, ap (λ (z : Node). pieces_from z.copies m) same ∙ copy_next m series piece c node.copies pieces was, next_kept pieces series of k c kept below))
              ],
            )

        -- all pieces below a number come
        all_come : (u : World) → IsGathering m (suc m) u → IsSent q series u → (pieces_from (u.nodes g x).copies m ≡ None) → (k : ℕ) → k ≤ of
            → (later : World) × IsGathering m (suc m) later × IsSent q series later × HasCome later k
        all_come u gathers sends first zero low = (u, gathers, sends, inl (refl, first))
        all_come u gathers sends first (suc k) low =
            let (a, ga, sa, ca) = all_come u gathers sends first k (omega arith) in
            comes a ga sa k (omega arith) ca

        -- so the node has a complete copy
        copied_whole : (u : World) → IsGathering m (suc m) u → HasCome u of → IsGathering (suc m) (suc m) u
        copied_whole u gathers come =
            let has : IsBrought u m = elim come [
              | inl none' ↦ absurd (let one : 1 ≤ of = some_piece (length q.records) in let z : of ≡ 0 = none'.0 in omega arith)
              | inr all ↦ (let (pieces, is, kept) = all in (pieces, is, all_kept pieces series of kept))
            ] in
            record {
              reached = gathers.reached;
              installs = gathers.installs;
              keeps = gathers.keeps;
              unwhole = gathers.unwhole;
              place = gathers.place;
              spare = gathers.spare;
              unused = gathers.unused;
              elsewhere = gathers.elsewhere;
              found = gathers.found;
              none = gathers.none;
              brought_all = λ y below is_sender. elim (cases_lt y m) [
                | inl lower ↦ gathers.brought_all y lower is_sender
                | inr last ↦ (let e : m ≡ y = omega arith in subst (IsBrought u) e has)
              ];
            }

      -- all of it
      sender_copied : (u : World) → IsGathering m m u → (later : World) × IsGathering (suc m) (suc m) later
      sender_copied u gathers =
          let (a, ga, q, series, sa, first) = sent u gathers in
          let (b, gb, sb, cb) = all_come q series a ga sa first (pieces_of (length q.records)) (omega arith) in
          (b, copied_whole q series b gb cb)

    -- the copies of all senders below a number come
    all_copied : (u : World) → IsGathering 0 0 u → (m : ℕ) → (later : World) × IsGathering m m later
    all_copied u gathers zero = (u, gathers)
    all_copied u gathers (suc m) =
        let (a, ga) = all_copied u gathers m in
        elim (cases_Bool (readers m)) [
          | inl sender ↦ sender_copied m sender a ga
          | inr no_sender ↦ (a, skipped m a ga (λ sender. both_ways _ no_sender sender))
        ]

    -- with them the node becomes whole, and has the recovery's lineage
    hydrates : (head : last_epoch line ≡ v) → sat (plan.configuration g (at plan v now line records g)).read readers ≡ true
        → (u : World) → IsGathering 64 64 u
        → (later : World) × Reaches plan start later × Installs later × Keeps start later × CanCopyIn later g n × CopiesElsewhere g start later × Installed later g x
    hydrates head reads u gathers =
        let i : Installs u = gathers.installs in
        let node : Node = u.nodes g x in
        let copies : List Copy = node.copies in
        let there : g < plan.groups = in_plan u i g l in
        let node_is : NodeKept plan i.recovering.in_run.held u g x node = i.recovering.in_run.kept.nodes g x there in
        let read : sat (plan.configuration g (at plan v now line records g)).read (copied_by copies) ≡ true =
        sat_more (plan.configuration g (at plan v now line records g)).read readers (copied_by copies)
        (λ y sender. (let (pieces, has, complete) = gathers.brought_all y (ready y sender).0 sender in complete_counts copies y pieces has complete)) reads in
        let some : (y : ℕ) × (copied_by copies y ≡ true) = sat-some (plan.configuration g (at plan v now line records g)).read (copied_by copies) (certified.quorums g (at plan v now line records g) there (is_there u i g l)).valid_read read in
        let (copy, j, own, complete) = copied_by-has copies some.0 some.1 in
        let (kept, k) = complete_some _ copy.pieces (node_is.copies copy j) complete in
        let one : IsIn kept.contents (brought copies) = brought-has copies copy kept.contents j complete (map-has (λ (p : KeptPiece). p.contents) copy.pieces.kept kept k) in
        let found_each : (c : Contents) → IsIn c (brought copies) → IsFound g c = λ c b. (let (from, o, done, part) = brought-from copies c b in gathers.found from o c part) in
        let (d, among, is_newest) = newest-of (brought copies) kept.contents one in
        let lineage : newest (brought copies) ≡ line = is_newest ∙ (found_each d among).0 in
        let last : last_epoch (newest (brought copies)) ≡ v = ap last_epoch lineage ∙ head in
        let found : List Redo = found_in (newest (brought copies)) (brought copies) in
        let short : length found ≤ length (of_group g records) =
        included_shorter found (of_group g records) (in_order found (found_in-ordered (newest (brought copies)) (brought copies))) (in_order (of_group g records) (of_group-ordered g records))
        (λ r among'. (let (c, b, in_c, live) = found_in-from (newest (brought copies)) (brought copies) r among' in (found_each c b).1 r in_c)) in
        let step : NodeStep = record { made = []; node = whole_node node (all_of copies) } in
        let is : ◌≡◌ {A = NodeAnswer} (hydrated plan g x node) (Ok step) = hydrated_is plan g x node (gathers.unwhole) (at_configuration u gathers) (subst (λ (p : Place). sat (plan.configuration g p.configuration).read (copied_by copies) ≡ true) (sym gathers.place) read) (omega (arith, short, few)) in
        let e : after plan u (Hydrate g x) ≡ changed u g x step = answered plan u g x (hydrated plan g x node) step (has_joined u i g l) (is_named_there u i g l x member) is in
        let below : node.volume ≤ v = i.recovering.volume g x in
        let own_epoch : node.place.epoch ≡ epoch_at plan v now line records g = ap (λ (p : Place). p.epoch) gathers.place in
        let positive : 1 ≤ epoch_at plan v now line records g = is_positive u i g l in
        let (installs, keeps) = step_on u i (Hydrate g x) g x step e (omega (arith, below, last)) (λ w. omega (arith, own_epoch, positive)) (λ un. absurd (true≢false un)) (i.unstarted g x) (λ w. refl) (λ was. absurd (both_ways _ gathers.unwhole was.whole)) in
        let later : World = changed u g x step in
        let same : put_at u.nodes g x step.node g x ≡ step.node = put_at-same u.nodes g x step.node in (
          later,
          reach_then plan start u later gathers.reached (Hydrate g x ∷ [], e),
          installs,
          keeps_then start u later gathers.keeps keeps,
          put_at-in (λ y (z : Node). z.copied + n ≤ most_copies) u.nodes g x step.node (gathers.spare x) gathers.spare,
          copies_elsewhere_then g start u later gathers.elsewhere (copies_elsewhere_on u g x step),
          record { whole = ap (λ (z : Node). z.whole) same; lineage = ap lineage_epoch same ∙ last; epoch = ap (λ (z : Node). z.place.epoch) same ∙ own_epoch },
        )
      where
        at_configuration : (u : World) → IsGathering 64 64 u → has_configuration plan g x (u.nodes g x) ≡ true
        at_configuration u gathers =
            let positive : 1 ≤ epoch_at plan v now line records g = is_positive u gathers.installs g l in
            subst (λ (p : Place). (nat_lt 0 p.epoch && has_member (plan.configuration g p.configuration) x) ≡ true) (sym gathers.place)
            (and_from (nat_lt 0 (epoch_at plan v now line records g)) _ (lt-ltb 0 (epoch_at plan v now line records g) (omega arith)) member)

  -- A member that isn't whole becomes whole, and has the recovery's lineage, if ready members satisfy the read expression,
  -- and each node of the group can make one more copy.
  pub hydrated_from : last_epoch line ≡ v → (u : World) → Installs u → HasWholeRoots plan u → (g x : ℕ) → g < length now → is_member plan v now line records g x ≡ true
      → (u.nodes g x).whole ≡ false → length (of_group g records) ≤ most_records
      → (readers : Members) → AreReady u g readers → sat (plan.configuration g (at plan v now line records g)).read readers ≡ true
      → (n : ℕ) → CanCopyIn u g (suc n)
      → (later : World) × Reaches plan u later × Installs later × Keeps u later × CanCopyIn later g n × CopiesElsewhere g u later × Installed later g x
  hydrated_from head u i roots g x l member un few readers ready reads n spare =
      let (a, ua, ia, ka, una, at_place, sa, ea) = placed g x l member u i roots un (suc n) spare in
      let (b, ab, ib, kb, same, sb, eb) = restarts g x l member a ia una (suc n) sa in
      let gathers : IsGathering u n g x l member few readers ready 0 0 b = record {
        reached = reach_then plan u a b ua ab;
        installs = ib;
        keeps = keeps_then u a b ka kb;
        unwhole = ap (λ (z : Node). z.whole) same ∙ una;
        place = ap (λ (z : Node). z.place) same ∙ at_place;
        spare = λ y. (let s : (b.nodes g y).copied + suc n ≤ most_copies = sb y in omega arith);
        unused = λ y past. sb y;
        elsewhere = copies_elsewhere_then g u a b ea eb;
        found = subst (λ (z : Node). (copy : Copy) → IsIn copy z.copies → (c : Contents) → IsIn c (contents_in copy.pieces) → IsFound g c) (sym same) (λ copy j. absurd j);
        none = λ y past. ap (λ (z : Node). pieces_from z.copies y) same;
        brought_all = λ y below. absurd (omega arith);
      } in
      let (c, gc) = all_copied u n g x l member few readers ready b gathers 64 in
      hydrates u n g x l member few readers ready head reads c gc
