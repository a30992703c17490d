-- What a writer has acknowledged it has acknowledged for good
use Rattle.std.proofs.Common.{◌≡◌, ℕ, ◌<◌, ◌≤◌, Bool, true, false, ◌&&◌, nat_le, eqb, List, [], ◌∷◌, ◌++◌, append_assoc, Ok, refl, sym, ap, ◌∙◌, subst, inl, inr, arith, slice_set}
use Rattle.std.proofs.lemmas.Bool.{cases_Bool, and_parts, and_from, both_ways, eqb-true, eq-eqb, leb-true, le-leb, cases_lt}
use Rattle.volume_model.specs.Common.{IsIn, any, Redo, last_lsn, up_to, last_start, Plan, IsCertified, Label, Place, place_in, From, Stage, ClientStep, has_cut, is_open, counts_of, group_point_of, ClientGroup, no_group, group_of, complete_of, consistency_point_below, is_consistency_point, complete_point, durable_point, groups_now, with_count, raised, Change, issued_log, record_of, is_last, issued, report_taken, cut_client, opened, viewed, ack_taken, with_places, later_group, is_later, Unborn, Reading, Installing, Writing, World, Event, run, opening, Acknowledges, part_of, AcknowledgementsLast}
use Rattle.volume_model.specs.Client.{Client}
use Rattle.volume_model.proofs.Basics.{any_passes, any_from, IsIn-append_right}
use Rattle.volume_model.proofs.Logs.{IsChain, up_to-newer}
use Rattle.volume_model.proofs.Renewed.{IsKeptWorld}
use Rattle.volume_model.proofs.Sound.{facts}
use Rattle.volume_model.proofs.ClientRelations.{run_on}
use Rattle.volume_model.proofs.Run.{opening_kept, run_kept}
use Rattle.volume_model.proofs.Groups.{set-all, group_of-with_places, later_group-none, group_of-beyond, group_of-raised}
use Rattle.std.proofs.lemmas.Grind.{common_steps}

-- what an open client has it keeps
pub record Lasts (old new : Client) : Type 0 where
  pub open_on : is_open old.stage ≡ true → is_open new.stage ≡ true
  pub points : is_open old.stage ≡ true → (group : ℕ) → group_point_of old.groups group ≤ group_point_of new.groups group
  pub log : is_open old.stage ≡ true → (later : List Redo) × (later ++ old.log ≡ new.log)

same_lasts : (client : Client) → Lasts client client
same_lasts client = record { open_on = λ h. h; points = λ h group. omega arith; log = λ h. ([], refl) }

lasts_after : (a b c : Client) → Lasts a b → Lasts b c → Lasts a c
lasts_after a b c f g = record {
  open_on = λ h. g.open_on (f.open_on h);
  points = λ h group. (let x : group_point_of a.groups group ≤ group_point_of b.groups group = f.points h group in let y : group_point_of b.groups group ≤ group_point_of c.groups group = g.points (f.open_on h) group in omega arith);
  log = λ h. (let (m, p) = f.log h in let (n, q) = g.log (f.open_on h) in (n ++ m, append_assoc n m a.log ∙ ap (λ z. n ++ z) p ∙ q));
}

closed_lasts : (old new : Client) → is_open old.stage ≡ false → Lasts old new
closed_lasts old new n = record { open_on = λ h. absurd (both_ways _ n h); points = λ h. absurd (both_ways _ n h); log = λ h. absurd (both_ways _ n h) }

issued_later : (v start : ℕ) (changes : List Change) (log : List Redo) → (later : List Redo) × (later ++ log ≡ issued_log v start changes log)
issued_later v start [] log = ([], refl)
issued_later v start (change ∷ more) log =
    let r : Redo = record_of v start log change (is_last more) in
    let (later, e) = issued_later v start more (r ∷ log) in
    (later ++ r ∷ [], append_assoc later (r ∷ []) log ∙ e)

module _ (plan : Plan) (v : ℕ) (client : Client) where
  -- the step leaves what an open client has
  abbrev IsLater : ClientStep → Type 0
  IsLater step = Lasts client step.client

  issue_lasts : (changes : List Change) (step : ClientStep) → issued plan v client changes ≡ Ok step → IsLater step
  issue_lasts changes step h = grind (arith, common_steps, (issued_later v (last_start client.lineage) changes client.log))

  cut_lasts : (step : ClientStep) → cut_client plan v client ≡ Ok step → IsLater step
  cut_lasts step h = grind (arith, common_steps)

  open_lasts : (step : ClientStep) → opened plan client ≡ Ok step → IsLater step
  open_lasts step h = grind (arith, common_steps)

  raised_rises : (groups : List ClientGroup) (group : ℕ) → group_point_of groups group ≤ group_point_of (raised plan groups) group
  raised_rises groups group = grind (arith, common_steps, cases_lt, group_of-raised, group_of-beyond)

  later_point : (g : ClientGroup) (place : Place) → (later_group g place).group_point ≡ g.group_point
  later_point g place = elim (cases_Bool (is_later g.place place)) [ inl e ↦ rw e refl | inr e ↦ rw e refl ]

  later_same : (places : List Place) (group : ℕ) → group_point_of (with_places later_group client.groups places) group ≡ group_point_of client.groups group
  later_same places group = ap (λ g. g.group_point) (group_of-with_places later_group later_group-none client.groups places group) ∙ later_point (group_of client.groups group) (place_in places group)

  viewed_lasts : (places : List Place) (stage : Stage) → client.stage ≡ stage → IsLater (viewed plan v client places stage)
  viewed_lasts places Unborn e = closed_lasts client _ (ap is_open e)
  viewed_lasts places Reading e = closed_lasts client _ (ap is_open e)
  viewed_lasts places Installing e = closed_lasts client _ (ap is_open e)
  viewed_lasts places Writing e = record {
    open_on = λ h. h;
    points = λ h group. (
        let same : group_point_of (with_places later_group client.groups places) group ≡ group_point_of client.groups group = later_same places group in
        let rises : group_point_of (with_places later_group client.groups places) group ≤ group_point_of (raised plan (with_places later_group client.groups places)) group = raised_rises (with_places later_group client.groups places) group in
        omega arith);
    log = λ h. ([], refl);
  }

  report_lasts : (group : ℕ) (l : Label) (from : From) → Lasts client (report_taken v client group l from)
  report_lasts group l from = grind (arith, common_steps)

  now_rises : (stage : Stage) (groups : List ClientGroup) (group : ℕ) → group_point_of groups group ≤ group_point_of (groups_now plan stage groups) group
  now_rises Unborn groups group = omega arith
  now_rises Reading groups group = omega arith
  now_rises Installing groups group = omega arith
  now_rises Writing groups group = raised_rises groups group

  ack_lasts : (group : ℕ) (l : Label) (sender reached : ℕ) → Lasts client (ack_taken plan client group l sender reached)
  ack_lasts group l sender reached =
      let with_ack : ClientGroup = record (group_of client.groups group) { counts = with_count sender reached (counts_of client.groups group) } in
      let groups : List ClientGroup = slice_set client.groups group with_ack in
      let same : (g : ℕ) → group_point_of groups g ≡ group_point_of client.groups g = set-all no_group (λ g x. x.group_point ≡ group_point_of client.groups g) client.groups group with_ack refl (λ g. refl) in
      grind (arith, common_steps, cases_Bool, same_lasts, now_rises)

all_last : (plan : Plan) (events : List Event) (world : World) (y : ℕ) → Lasts (world.clients y) ((run plan world events).clients y)
all_last plan =
    run_on plan Lasts (record { same = same_lasts; issue = issue_lasts plan; cut = cut_lasts plan; start = open_lasts plan; view = viewed_lasts plan; report = report_lasts plan; ack = ack_lasts plan }) lasts_after

-- the complete point and the durable point don't fall
complete_below : (points : ℕ → ℕ) (log : List Redo) → IsChain log → complete_of points log ≤ last_lsn log
complete_below points [] c = omega arith
complete_below points (s ∷ older) c = grind (arith, common_steps, cases_Bool, (complete_below points older c.1))

complete_rises : (points points' : ℕ → ℕ) → ((group : ℕ) → points group ≤ points' group) → (log : List Redo) → IsChain log → complete_of points log ≤ complete_of points' log
complete_rises points points' up [] c = omega arith
complete_rises points points' up (s ∷ older) c = grind (arith, common_steps, complete_below, cases_Bool, and_parts, eqb-true, leb-true, and_from, eq-eqb, le-leb, (complete_rises points points' up older c.1))

point_at_most_last : (n : ℕ) (log : List Redo) → IsChain log → consistency_point_below n log ≤ last_lsn log
point_at_most_last n [] c = omega arith
point_at_most_last n (s ∷ older) c = grind (arith, common_steps, cases_Bool, (point_at_most_last n older c.1))

point_rises : (n m : ℕ) → n ≤ m → (log : List Redo) → IsChain log → consistency_point_below n log ≤ consistency_point_below m log
point_rises n m h [] c = omega arith
point_rises n m h (s ∷ older) c = grind (arith, common_steps, (point_rises n m h older c.1), (point_at_most_last n older c.1), (cases_Bool (s.point && nat_le s.lsn n)), (cases_Bool (s.point && nat_le s.lsn m)))

durable_rises : (points points' : ℕ → ℕ) → ((group : ℕ) → points group ≤ points' group) → (later log : List Redo) → IsChain (later ++ log) → consistency_point_below (complete_of points log) log ≤ consistency_point_below (complete_of points' (later ++ log)) (later ++ log)
durable_rises points points' up [] log c = point_rises _ _ (complete_rises points points' up log c) log c
durable_rises points points' up (s ∷ later) log c =
    let older : List Redo = later ++ log in
    let ih : consistency_point_below (complete_of points log) log ≤ consistency_point_below (complete_of points' older) older = durable_rises points points' up later log c.1 in
    let grows : complete_of points' older ≤ complete_of points' (s ∷ older) = grind (arith, common_steps) in
    let rises : consistency_point_below (complete_of points' older) older ≤ consistency_point_below (complete_of points' (s ∷ older)) older = point_rises _ _ grows older c.1 in
    let below : consistency_point_below (complete_of points' (s ∷ older)) older ≤ last_lsn older = point_at_most_last _ older c.1 in
    grind (arith, common_steps)

any-later : {A : Type 0} (test : A → Bool) (later xs : List A) → any test xs ≡ true → any test (later ++ xs) ≡ true
any-later test later xs h = let (x, i, p) = any_passes test xs h in any_from test (later ++ xs) x (IsIn-append_right later xs x i) p

-- records that came behind a chain are above it
later_above : (later log : List Redo) → IsChain (later ++ log) → (r : Redo) → IsIn r later → last_lsn log < r.lsn
later_above [] log c r i = absurd i
later_above (s ∷ later) log c r (inl e) =
    omega (arith, (last_grows later log c.1), (ap (λ z. z.lsn) e))
  where
    last_grows : (later log : List Redo) → IsChain (later ++ log) → last_lsn log ≤ last_lsn (later ++ log)
    last_grows [] log c = omega arith
    last_grows (s ∷ later) log c = let link : last_lsn (later ++ log) < s.lsn = c.0.above in let l : last_lsn log ≤ last_lsn (later ++ log) = last_grows later log c.1 in omega arith
later_above (s ∷ later) log c r (inr i) = later_above later log c.1 r i

pub cut_from_open : (stage : Stage) → is_open stage ≡ true → has_cut stage ≡ true
cut_from_open Unborn h = h
cut_from_open Reading h = h
cut_from_open Installing h = refl
cut_from_open Writing h = refl

pub IsChain-rest : (later log : List Redo) → IsChain (later ++ log) → IsChain log
IsChain-rest [] log c = c
IsChain-rest (s ∷ later) log c = IsChain-rest later log c.1

module _ (plan : Plan) (certified : IsCertified plan) (events more : List Event) where
  -- the world after the first events
  abbrev before : World
  before = run plan (opening plan) events

  -- the world after all events
  abbrev end : World
  end = run plan before more

  end_kept : IsKeptWorld plan end
  end_kept = run_kept plan certified more before (run_kept plan certified events (opening plan) (opening_kept plan certified))

  -- the records that a writer has issued since, and that its log is a chain
  module _ (v : ℕ) (opened : is_open (before.clients v).stage ≡ true) where
    abbrev old : Client
    old = before.clients v

    abbrev new : Client
    new = end.clients v

    lasts : Lasts old new
    lasts = all_last plan more before v

    open_now : is_open new.stage ≡ true
    open_now = lasts.open_on opened

    abbrev later : List Redo
    later = (lasts.log opened).0

    same_log : later ++ old.log ≡ new.log
    same_log = (lasts.log opened).1

    chain : IsChain (later ++ old.log)
    chain = subst IsChain (sym same_log) (facts plan certified end end_kept.kept v (cut_from_open new.stage open_now)).chain

    -- an opened writer's durable point never falls
    rises : durable_point old ≤ durable_point new
    rises = subst (λ log. durable_point old ≤ consistency_point_below (complete_of (group_point_of new.groups) log) log) same_log (durable_rises (group_point_of old.groups) (group_point_of new.groups) (lasts.points opened) later old.log chain)

  stays : (v n : ℕ) → Acknowledges before v n → Acknowledges end v n × (part_of end v n ≡ part_of before v n)
  stays v n h =
      let parts : (is_open (before.clients v).stage ≡ true) × ((is_consistency_point n (before.clients v).log && nat_le n (durable_point (before.clients v))) ≡ true) = and_parts _ _ h in
      let both : (is_consistency_point n (before.clients v).log ≡ true) × (nat_le n (durable_point (before.clients v)) ≡ true) = and_parts _ _ parts.1 in
      let risen : durable_point (before.clients v) ≤ durable_point (end.clients v) = rises v parts.0 in
      let low : n ≤ durable_point (before.clients v) = leb-true n (durable_point (before.clients v)) both.1 in
      let at : is_consistency_point n (end.clients v).log ≡ true = subst (λ log. is_consistency_point n log ≡ true) (same_log v parts.0) (any-later (λ r. eqb r.lsn n && r.point) (later v parts.0) (before.clients v).log both.0) in
      let below : durable_point (before.clients v) ≤ last_lsn (before.clients v).log = point_at_most_last (complete_point (before.clients v)) (before.clients v).log (IsChain-rest (later v parts.0) (before.clients v).log (chain v parts.0)) in (
        and_from _ _ (open_now v parts.0) (and_from _ _ at (le-leb n (durable_point (end.clients v)) (omega arith))),
        ap (up_to n) (sym (same_log v parts.0)) ∙ up_to-newer n (later v parts.0) (before.clients v).log (λ r i. (let a : last_lsn (before.clients v).log < r.lsn = later_above (later v parts.0) (before.clients v).log (chain v parts.0) r i in omega arith)),
      )

pub acknowledgements_last : AcknowledgementsLast
acknowledgements_last plan certified events more = record { acknowledged_on = stays plan certified events more; durable_on = rises plan certified events more }
