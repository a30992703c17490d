-- Each step of a client keeps the invariant
use Rattle.std.proofs.Common.{◌≡◌, ℕ, ◌<◌, ◌≤◌, max, Bool, true, false, not, ◌&&◌, ◌||◌, ◌==◌, nat_lt, nat_le, eqb, ◌⊎◌, List, [], ◌∷◌, ◌++◌, Option, Some, None, Ok, Err, length, refl, sym, ap, ◌∙◌, subst, inl, inr, arith, map, slice_set}
use Rattle.std.proofs.lemmas.Bool.{cases_Bool, cases_lt, and_parts, true≢false, both_ways, eqb-true, eq-eqb, ltb-true, lt-ltb, leb-true, not-true, not-false}
use Rattle.std.proofs.lemmas.List.{length-map}
use Rattle.volume_model.specs.Common.{IsIn, every, each_below, numbered, put, Formula, sat, Redo, of_group, cut_of, log_found, Lineage, last_epoch, last_start, extended, Contents, newest, in_pieces, Plan, IsCertified, Label, Place, Message, place_in, View, Fence, Report, Install, Write, Ack, PageAsk, Page, From, senders, in_group, Stage, Count, ClientStep, ClientAnswer, is_born, has_cut, is_open, unborn, place_configuration, ClientGroup, newly_at, group_of, place_of, reports_of, counts_of, label_of, stays, no_group, reaching, best, counted_by, with_count, raised_group, raised, groups_now, Change, record_of, is_last, issued_log, issued_writes, is_change, issued, resent, page_asked, fences, to_install, installs, report_taken, all_reports, has_read, has_installed, cut_client, opened, is_later, later_in, later_unjoined, later_group, reread_group, with_places, viewed, ack_taken, are_places, taken, Unborn, Reading, Installing, Writing, World, groups_joined, of_client, after_step, take, IsPieceOf}
use Rattle.volume_model.proofs.FormulaLaws.{sat-some}
use Rattle.volume_model.specs.Lineage.{found_in}
use Rattle.volume_model.specs.Node.{with_first}
use Rattle.volume_model.specs.Client.{Client}
use Rattle.volume_model.proofs.Basics.{any_passes, numbered-in, IsIn-append_right, every-all, every_below-all, each_below-chosen, each_below-from, neither, IsIn-joined}
use Rattle.volume_model.proofs.Logs.{IsLink}
use Rattle.volume_model.proofs.Chains.{record_at-some, log_found-within}
use Rattle.volume_model.proofs.Invariant.{Held, log_of, found_of, lineage_of, HasCut, IsMade, label, WasAt, IsCopy, config}
use Rattle.volume_model.proofs.Pieces.{in_pieces-from}
use Rattle.volume_model.proofs.Kept.{install_of, IsPlace, IsGrown, HasRead, IsHeir, IsOwned, IsCutClient, IsReached, AreUnjoined, HasView, IsBorn, ClientKept, IsView, MessageKept, IsKept}
use Rattle.volume_model.proofs.Added.{MessageNew, messages_added}
use Rattle.volume_model.proofs.ClientRelations.{Ok-is, issued-ok}
use Rattle.volume_model.proofs.Changed.{ClientGrows, client_changed}
use Rattle.volume_model.proofs.Records.{of_group-from, of_group-has, of_group-none, found_in-from, newest-most, newest-of, all_reports-from, all_reports-has, all_reports-beyond, with_first-from, from_there}
use Rattle.volume_model.proofs.Sound.{born_from_cut, is_sound}
use Rattle.volume_model.proofs.NodeSteps.{refuse_if-ok, extension-ok}
use Rattle.volume_model.proofs.Groups.{set-all, length-slice_set, length-with_places, length-raised, group_of-beyond, group_of-with_places, later_group-none, reread_group-none, group_of-new, group_of-raised, raised-keeps}
use Rattle.volume_model.proofs.Views.{place_in-there}
use Rattle.volume_model.specs.declared.fault.Fault.TheVariants.{AlreadyDone, NoActor, NotAddressed, NotInPlan, NotReady}
use Rattle.std.proofs.lemmas.Grind.{common_steps}
use Rattle.std.proofs.Common.{rules}

cut_from_open : (stage : Stage) → is_open stage ≡ true → has_cut stage ≡ true
cut_from_open Unborn h = h
cut_from_open Reading h = h
cut_from_open Installing h = refl
cut_from_open Writing h = refl

-- what a client says, of itself as the step leaves it
abbrev pub ClientSays : ℕ → Client → Message → Type 0
ClientSays v client (Fence to l) = Unit {0}
ClientSays v client (Install to l p c) = (has_cut client.stage ≡ true) × (l.volume ≡ v) × IsPieceOf (to_install client.lineage client.found to) p c
ClientSays v client (Write to l r) = (has_cut client.stage ≡ true) × (l.volume ≡ v) × IsIn r client.log × (r.group ≡ to)
ClientSays v client (PageAsk to l block point) = Unit {0}
ClientSays v client m = ⊥

-- a step of a client that keeps the invariant
pub record IsGoodMove (plan : Plan) (world : World) (v : ℕ) (step : ClientStep) : Type 0 where
  pub grows : ClientGrows (world.clients v) step.client
  -- the client, as it was
  pub client : ClientKept plan world v step.client
  pub says : (m : Message) → IsIn m step.made → ClientSays v step.client m

head_of : (plan : Plan) (world : World) (v : ℕ) (client : Client) → IsCutClient plan world v client → last_epoch client.lineage ≡ v
head_of plan world v client k = elim k.origin [ inl root ↦ ap last_epoch root.lineage ∙ sym root.one | inr child ↦ ap last_epoch child.lineage ]

pub put-same : {A : Type 0} (f : ℕ → A) (x : ℕ) (value : A) → put f x value x ≡ value
put-same f x value = rw (eq-eqb x x refl) refl

-- counts: where each comes from
with_count-from : (sender reached : ℕ) (counts : List Count) (count : Count) → IsIn count (with_count sender reached counts) → ((count.sender ≡ sender) × (count.reached ≡ reached)) ⊎ ((c : Count) × IsIn c counts × (count.sender ≡ c.sender) × (count.reached ≡ c.reached))
with_count-from sender reached [] count i = grind (arith, common_steps)
with_count-from sender reached (c ∷ rest) count i =
    elim (cases_Bool (eqb c.sender sender)) [
      | inl e ↦ grind (arith, common_steps)
      | inr e ↦ (
          let j : (count ≡ c) ⊎ IsIn count (with_count sender reached rest) = rw e at i in
          elim j [
            | inl p ↦ inr (c, inl refl, ap (λ z. z.sender) p, ap (λ z. z.reached) p)
            | inr k ↦ grind (arith, common_steps, (with_count-from sender reached rest count k))
          ])
    ]

-- the best number: 0, or one that a write set has reached
best-is : (write : Formula) (all list : List Count) → (best write all list ≡ 0) ⊎ (sat write (reaching all (best write all list)) ≡ true)
best-is write all [] = inl refl
best-is write all (c ∷ rest) = grind (arith, common_steps, cases_Bool, cases_lt, max, (best-is write all rest))

module _ (plan : Plan) (certified : IsCertified plan) {held : Held} (world : World) (kept : IsKept plan held world) (v : ℕ) where
  says_new : (client : Client) → ClientKept plan world v client → (m : Message) → ClientSays v client m → MessageNew plan held (record world { clients = put world.clients v client }) m
  says_new client good (Fence to l) h = tt
  says_new client good (Install to l p c) h =
      let later : World = record world { clients = put world.clients v client } in
      let same : client ≡ put world.clients v client v = sym (put-same world.clients v client) in
      let k : IsCutClient plan world v client = good.cut h.0 in
      let e : last_epoch client.lineage ≡ v = head_of plan world v client k in
      let in_log : (r : Redo) → IsIn r client.found → IsIn r client.log = λ r i. subst (λ z. IsIn r z) k.log (IsIn-append_right k.own client.found r i) in
      let is : to_install client.lineage client.found to ≡ install_of later to l.volume = ap (λ c. to_install c.lineage c.found to) same ∙ ap (λ u. install_of later to u) (sym h.1) in
      let copy : IsCopy later to (to_install client.lineage client.found to) = record {
        cut = subst (λ u. HasCut later u) (sym e) (ap (λ c. has_cut c.stage) (sym same) ∙ h.0);
        lineage = ap (λ c. c.lineage) same ∙ ap (λ u. lineage_of later u) (sym e);
        records = λ r i. (
            let f : IsIn r client.found × (r.group ≡ to) = of_group-from to client.found r i in
            (subst (λ u. IsIn r (log_of later u)) (sym e) (subst (λ c. IsIn r c.log) same (in_log r f.0)), f.1));
        found = λ r i g. of_group-has to client.found r (subst (λ c. IsIn r c.found) (sym same) (subst (λ u. IsIn r (found_of later u)) e i)) g;
      } in
      grind (arith, common_steps)
  says_new client good (Write to l r) h = grind (arith, common_steps)
  says_new client good (PageAsk to l block point) h = tt
  says_new client good m h = absurd h

  pub client_step : (answer : ClientAnswer) → ((step : ClientStep) → answer ≡ Ok step → IsGoodMove plan world v step) → IsKept plan held (after_step world (of_client world v answer))
  client_step (Err number) good = kept
  client_step (Ok step) good =
      let g : IsGoodMove plan world v step = good step refl in
      messages_added plan certified held step.made (record world { clients = put world.clients v step.client })
      (client_changed plan world kept v step.client g.grows g.client)
      (λ m i. says_new step.client g.client m (g.says m i))

  abbrev client : Client
  client = world.clients v

  now : ClientKept plan world v client
  now = kept.clients v

  -- a client that stays, and says something
  stays_good : (made : List Message) → ((m : Message) → IsIn m made → ClientSays v client m) → IsGoodMove plan world v (record { made = made; client = client })
  stays_good made says = grind (arith, common_steps)

  -- the facts of a cut, where only the stage is new, and of the groups all but the reports
  cut_moved : (stage : Stage) (groups : List ClientGroup) → ((group : ℕ) → reports_of groups group ≡ reports_of client.groups group) → length client.groups ≤ length groups → IsCutClient plan world v client → IsCutClient plan world v (record client { stage = stage; groups = groups })
  cut_moved stage groups same long k =
      let all : all_reports (reports_of client.groups) plan.groups ≡ all_reports (reports_of groups) plan.groups = λ i. all_reports (λ group. sym (same group) i) plan.groups in
      record {
        own = k.own;
        log = k.log;
        grown = k.grown;
        owned = λ r i. record { volume = (k.owned r i).volume; above = (k.owned r i).above; group = (k.owned r i).group };
        origin = elim k.origin [
          | inl root ↦ inl (record { one = root.one; lineage = root.lineage; found = root.found })
          | inr child ↦ inr (record {
            parent = child.parent;
            below = child.below;
            parent_cut = child.parent_cut;
            lineage = child.lineage ∙ ap (λ z. extended (lineage_of world child.parent) v (cut_of (found_in (lineage_of world child.parent) z)) plan.lal) all;
            found = child.found ∙ ap (λ z. log_found (found_in (lineage_of world child.parent) z)) all;
            event_result = λ group there from i. child.event_result group there from (subst (λ z. IsIn from z) (same group) i);
            reads = λ group there views. (let r : HasRead plan world v client child.parent group = child.reads group there views in record {
              at = r.at;
              positive = r.positive;
              there = r.there;
              was = r.was;
              reads = subst (λ z. sat (config plan world group r.at).read (senders z) ≡ true) (sym (same group)) r.reads;
              kept = λ from i. r.kept from (subst (λ z. IsIn from z) (same group) i);
            });
          })
        ];
        found_there = λ r i. (let l : r.group < length client.groups = k.found_there r i in omega arith);
      }

  -- where a client may have a group
  abbrev PlaceGood : ℕ → Place → Type 0
  PlaceGood group place = IsPlace plan world group place × WasAt plan world v group place.epoch

  -- each count comes from an acknowledgement that may be counted
  abbrev CountsGood : ℕ → ClientGroup → Type 0
  CountsGood group g = (count : Count) → IsIn count g.counts → (a : ℕ) × (a ≤ g.place.epoch) × IsMade world (Ack group (label v a) count.sender count.reached)

  -- the point is acknowledged
  abbrev PointGood : ℕ → ℕ → Type 0
  PointGood group point = (point ≡ 0) ⊎ IsReached plan world v group point

  -- what a client that has cut may keep of a group
  record IsGoodGroup (group : ℕ) (g : ClientGroup) : Type 0 where
    reports : g.reports ≡ reports_of client.groups group
    place : PlaceGood group g.place
    counts : CountsGood group g
    point : PointGood group g.group_point

  -- what a client that has cut may keep of all groups
  abbrev AreGood : List ClientGroup → Type 0
  AreGood groups = (group : ℕ) → group < length groups → IsGoodGroup group (group_of groups group)

  groups_good : has_cut client.stage ≡ true → AreGood client.groups
  groups_good cut group there = grind (arith, common_steps, now, born_from_cut, client)

  -- a client that has cut, with later places, more counts and higher points
  moved_good : has_cut client.stage ≡ true → (stage : Stage) → has_cut stage ≡ true → (groups : List ClientGroup) → ((group : ℕ) → reports_of groups group ≡ reports_of client.groups group) → length client.groups ≤ length groups → length groups ≤ plan.groups → AreGood groups → (is_open stage ≡ true → AreUnjoined (record client { stage = stage; groups = groups })) → (made : List Message) → ((m : Message) → IsIn m made → ClientSays v (record client { stage = stage; groups = groups }) m) → IsGoodMove plan world v (record { made = made; client = record client { stage = stage; groups = groups } })
  moved_good cut stage cut' groups same long within good unjoined made says = grind (arith, common_steps, IsBorn, client, now, born_from_cut, both_ways, cut_moved)

  -- what the counts satisfy now
  raised_point_good : (group : ℕ) (g : ClientGroup) → IsGoodGroup group g → PointGood group (raised_group plan group g).group_point
  raised_point_good group g good =
      let write : Formula = (place_configuration plan group g.place).write in
      let n : ℕ = best write g.counts g.counts in
      elim (cases_lt g.group_point n) [
        | inr l ↦ (let m : g.group_point ≡ max g.group_point n = omega arith in subst (PointGood group) m good.point)
        | inl l ↦ (
            let m : n ≡ max g.group_point n = omega arith in
            subst (PointGood group) m (elim (best-is write g.counts g.counts) [
              | inl z ↦ inl z
              | inr h ↦ inr (
                  let p : IsPlace plan world group g.place = good.place.0 in
                  record {
                    at = g.place.epoch;
                    positive = p.positive;
                    there = p.there;
                    was = good.place.1;
                    writers = reaching g.counts n;
                    writes = subst (λ c. sat (plan.configuration group c).write (reaching g.counts n) ≡ true) p.configuration h;
                    acked = λ x r. (
                        let t : (c : Count) × IsIn c g.counts × ((c.sender == x && nat_le n c.reached) ≡ true) = any_passes (λ c. c.sender == x && nat_le n c.reached) g.counts r in
                        let both : (eqb t.0.sender x ≡ true) × (nat_le n t.0.reached ≡ true) = and_parts _ _ t.2 in
                        let a : (a : ℕ) × (a ≤ g.place.epoch) × IsMade world (Ack group (label v a) t.0.sender t.0.reached) = good.counts t.0 t.1 in
                        (a.0, t.0.reached, a.1, leb-true n t.0.reached both.1, subst (λ y. IsMade world (Ack group (label v a.0) y t.0.reached)) (eqb-true t.0.sender x both.0) a.2));
                  })
            ]))
      ]

  raised_good : (groups : List ClientGroup) → AreGood groups → AreGood (raised plan groups)
  raised_good groups good group there =
      let l : length (raised plan groups) ≡ length groups = length-raised plan groups in
      let there' : group < length groups = omega arith in
      subst (IsGoodGroup group) (sym (group_of-raised plan groups group there')) (
      let g : IsGoodGroup group (group_of groups group) = good group there' in
      record { reports = g.reports; place = g.place; counts = g.counts; point = raised_point_good group (group_of groups group) g })

  raised_reports : (groups : List ClientGroup) (group : ℕ) → reports_of (raised plan groups) group ≡ reports_of groups group
  raised_reports groups group = raised-keeps (λ g. g.reports) (λ p k g. refl) plan groups group

  -- a group that hasn't joined once points are raised hadn't before
  raised_unjoined : (stage : Stage) (groups : List ClientGroup) → AreUnjoined (record client { stage = stage; groups = groups }) → AreUnjoined (record client { stage = stage; groups = raised plan groups })
  raised_unjoined stage groups h group there not_yet =
      let l : length (raised plan groups) ≡ length groups = length-raised plan groups in
      let there' : group < length groups = omega arith in
      let g : ClientGroup = group_of groups group in
      let e : (g.joined || sat (place_configuration plan group g.place).write (counted_by g.counts)) ≡ false = ap (λ z. z.joined) (sym (group_of-raised plan groups group there')) ∙ not_yet in
      h group there' (neither g.joined _ e).0

  -- own records behind what was found, after these changes
  record IsOwnLog (found log : List Redo) : Type 0 where
    own : List Redo
    is : own ++ found ≡ log
    grown : IsGrown found own
    owned : (r : Redo) → IsIn r own → IsOwned plan v client r

  issued_own : (changes : List Change) → ((change : Change) → IsIn change changes → change.group < plan.groups) → (found log : List Redo) → IsOwnLog found log → IsOwnLog found (issued_log v (last_start client.lineage) changes log)
  issued_own [] there found log h = h
  issued_own (change ∷ more) there found log h =
      let start : ℕ = last_start client.lineage in
      let r : Redo = record_of v start log change (is_last more) in
      issued_own more (λ c i. there c (inr i)) found (r ∷ log) (record {
        own = r ∷ h.own;
        is = ap (λ z. r ∷ z) h.is;
        grown = (subst (λ z. IsLink r z) (sym h.is) (record { above = omega arith; volume_link = refl; group_link = refl }), h.grown);
        owned = λ s i. (let j : (s ≡ r) ⊎ IsIn s h.own = i in elim j [
          | inl e ↦ subst (λ z. IsOwned plan v client z) (sym e) (record { volume = refl; above = omega arith; group = there change (inl refl) })
          | inr k ↦ h.owned s k
        ]);
      })

  issued_keeps : (start : ℕ) (changes : List Change) (log : List Redo) (r : Redo) → IsIn r log → IsIn r (issued_log v start changes log)
  issued_keeps start [] log r i = i
  issued_keeps start (change ∷ more) log r i = issued_keeps start more (record_of v start log change (is_last more) ∷ log) r (inr i)

  issued_says : (after : Client) → has_cut after.stage ≡ true → (places : ℕ → Place) (start : ℕ) (changes : List Change) (log : List Redo) → ((r : Redo) → IsIn r (issued_log v start changes log) → IsIn r after.log) → (m : Message) → IsIn m (issued_writes v places start changes log) → ClientSays v after m
  issued_says after cut places start [] log within m i = absurd i
  issued_says after cut places start (change ∷ more) log within m i =
      let r : Redo = record_of v start log change (is_last more) in
      let j : (m ≡ Write change.group (label_of v places change.group) r) ⊎ IsIn m (issued_writes v places start more (r ∷ log)) = i in
      elim j [
        | inl e ↦ subst (λ z. ClientSays v after z) (sym e) (cut, refl, within r (issued_keeps start more (r ∷ log) r (inl refl)), refl)
        | inr k ↦ issued_says after cut places start more (r ∷ log) within m k
      ]

  pub issued_good : (changes : List Change) (step : ClientStep) → issued plan v client changes ≡ Ok step → IsGoodMove plan world v step
  issued_good changes step h =
      let start : ℕ = last_start client.lineage in
      let (open_now, transaction, is) = issued-ok plan v client changes step h in
      let cut : has_cut client.stage ≡ true = cut_from_open client.stage open_now in
      let k : IsCutClient plan world v client = now.cut cut in
      let good : (nat_le 1 (length changes) ≡ true) × ((nat_le (length changes) 32 && every (is_change (length client.groups)) changes) ≡ true) = and_parts _ _ transaction in
      let each : every (is_change (length client.groups)) changes ≡ true = (and_parts (nat_le (length changes) 32) _ good.1).1 in
      let b' : IsBorn plan world v client = now.born (born_from_cut client.stage cut) in
      let there : (change : Change) → IsIn change changes → change.group < plan.groups = grind (arith, common_steps, client, ltb-true, and_parts, every-all) in
      let o : IsOwnLog client.found (issued_log v start changes client.log) = issued_own changes there client.found client.log (record { own = k.own; is = k.log; grown = k.grown; owned = k.owned }) in
      let after : Client = record client { log = issued_log v start changes client.log } in
      subst (λ s. IsGoodMove plan world v s) is (record {
        grows = record { cut = λ h. h; lineage = λ h. refl; found = λ h. refl; logs = λ h r i. issued_keeps start changes client.log r i };
        client = record {
          born = λ h. (let n : IsBorn plan world v client = now.born h in record { positive = n.positive; known = n.known; within = n.within; viewed = n.viewed; places = n.places });
          unjoined = now.unjoined;
          reading = now.reading;
          cut = λ h. record {
            own = o.own;
            log = o.is;
            grown = o.grown;
            owned = λ r i. record { volume = (o.owned r i).volume; above = (o.owned r i).above; group = (o.owned r i).group };
            origin = elim k.origin [
              | inl root ↦ inl (record { one = root.one; lineage = root.lineage; found = root.found })
              | inr child ↦ inr (record {
                parent = child.parent;
                below = child.below;
                parent_cut = child.parent_cut;
                lineage = child.lineage;
                found = child.found;
                event_result = child.event_result;
                reads = λ group t views. (let r : HasRead plan world v client child.parent group = child.reads group t views in record { at = r.at; positive = r.positive; there = r.there; was = r.was; reads = r.reads; kept = r.kept });
              })
            ];
            found_there = k.found_there;
          };
          counts = now.counts;
          points = now.points;
        };
        says = issued_says after cut (place_of client.groups) start changes client.log (λ r i. i);
      })

  pub resent_good : (lsn : ℕ) (step : ClientStep) → resent v client lsn ≡ Ok step → IsGoodMove plan world v step
  resent_good lsn step h = search (rules, refuse_if-ok, not, client, cut_from_open, not-false, Option, Ok, None, Some, Ok-is, stays_good, ClientSays, record_at-some)

  pub asked_good : (group block : ℕ) (step : ClientStep) → page_asked v client group block ≡ Ok step → IsGoodMove plan world v step
  asked_good group block step h = grind (arith, common_steps)

  pub opened_good : (step : ClientStep) → opened plan client ≡ Ok step → IsGoodMove plan world v step
  opened_good step h =
      let (z, h0) = refuse_if-ok (not (is_born client.stage)) NoActor _ step h in
      let (a, h1) = refuse_if-ok (is_open client.stage) AlreadyDone _ step h0 in
      let (b, h2) = refuse_if-ok (not (has_cut client.stage && has_installed plan client)) NotReady _ step h1 in
      let cut : has_cut client.stage ≡ true = (and_parts (has_cut client.stage) _ (not-false _ b)).0 in
      subst (λ s. IsGoodMove plan world v s) (Ok-is _ step h2)
      (let l : length (raised plan client.groups) ≡ length client.groups = length-raised plan client.groups in
      let within : length client.groups ≤ plan.groups = (now.born (born_from_cut client.stage cut)).within in
      let all : has_installed plan client ≡ true = (and_parts (has_cut client.stage) _ (not-false _ b)).1 in
      moved_good cut Writing refl (raised plan client.groups) (raised_reports client.groups) (omega arith) (omega arith) (raised_good client.groups (groups_good cut))
      (λ is group there not_yet. (
      let there' : group < length client.groups = omega arith in
      let g : ClientGroup = group_of client.groups group in
      let counted : sat (place_configuration plan group g.place).write (counted_by g.counts) ≡ true = every_below-all (length client.groups) (λ k. sat (place_configuration plan k (place_of client.groups k)).write (counted_by (counts_of client.groups k))) all group there' in
      let e : (g.joined || sat (place_configuration plan group g.place).write (counted_by g.counts)) ≡ false = ap (λ z. z.joined) (sym (group_of-raised plan client.groups group there')) ∙ not_yet in
      absurd (both_ways _ (neither g.joined _ e).1 counted)))
      [] (λ m i. absurd i))

  -- the Installs of a client that has cut, with what it found of each group that they are for
  installs_says : (after : Client) → has_cut after.stage ≡ true → (groups : ℕ) (places : ℕ → Place) (found : List Redo) (test : ℕ → Bool) → ((group : ℕ) → test group ≡ true → of_group group found ≡ of_group group after.found) → (m : Message) → IsIn m (installs groups v places after.lineage found test) → ClientSays v after m
  installs_says after cut groups places found test alike m i =
      let event_result : ℕ → List Message = λ group. in_pieces (to_install after.lineage found group) (Install group (label_of v places group)) in
      let (ms, j, k) = IsIn-joined (each_below groups test event_result) m i in
      let (group, l, chosen, same) = each_below-chosen groups test event_result ms j in
      let (p, c, is, e) = in_pieces-from (to_install after.lineage found group) (Install group (label_of v places group)) m (subst (λ z. IsIn m z) same k) in
      let is' : IsPieceOf (to_install after.lineage after.found group) p c = subst (λ z. IsPieceOf (record { lineage = after.lineage; records = z }) p c) (alike group chosen) is in
      subst (λ z. ClientSays v after z) (sym e) (cut, refl, is')

  fences_says : (after : Client) (groups : ℕ) (places : ℕ → Place) (test : ℕ → Bool) → (m : Message) → IsIn m (fences groups v places test) → ClientSays v after m
  fences_says after groups places test m i = search (rules, each_below-from, ClientSays)

  view_of : (q : List Place) → IsMade world (View v q) → IsView plan world v q
  view_of q i = kept.messages _ i

  not_cut : (has_cut client.stage ≡ true) ⊎ HasView world v client → has_cut client.stage ≡ false → HasView world v client
  not_cut (inl h) n = absurd (both_ways _ n h)
  not_cut (inr h) n = h

  pub cut_good : (step : ClientStep) → cut_client plan v client ≡ Ok step → IsGoodMove plan world v step
  cut_good step h =
      let groups : ℕ = length client.groups in
      let reported : List Contents = all_reports (reports_of client.groups) groups in
      let parent : Lineage = newest reported in
      let records : List Redo = found_in parent reported in
      let lineage : Lineage = extended parent v (cut_of records) plan.lal in
      let found : List Redo = log_found records in
      let (z, h0) = refuse_if-ok (not (is_born client.stage)) NoActor _ step h in
      let (a, h1) = refuse_if-ok (has_cut client.stage) AlreadyDone _ step h0 in
      let (b, h2) = refuse_if-ok (not (has_read plan client)) NotReady _ step h1 in
      let h3 = extension-ok parent v (cut_of records) plan.lal _ step h2 in
      let born : IsBorn plan world v client = now.born (not-false _ z) in
      let within : groups ≤ plan.groups = born.within in
      let beyond : all_reports (reports_of client.groups) plan.groups ≡ reported = all_reports-beyond client.groups plan.groups within in
      let (q, viewed, shorter) = not_cut born.viewed a in
      let birth : plan.born ≤ length q = (view_of q viewed).born in
      let reads : (group : ℕ) → group < groups → sat (plan.configuration group (place_of client.groups group).configuration).read (senders (reports_of client.groups group)) ≡ true = search (rules, every_below-all, client, not-false) in
      let at : (group : ℕ) → group < groups → IsPlace plan world group (place_of client.groups group) = λ group there. (born.places group there).0 in
      let line_there : (group : ℕ) → group < groups → (place_of client.groups group).configuration < plan.configurations group = grind (arith, common_steps, (is_sound plan certified world kept)) in
      let one_there : 0 < plan.born = certified.born_there in
      let zero_there : 0 < groups = omega arith in
      let some : (y : ℕ) × (senders (reports_of client.groups 0) y ≡ true) = sat-some (plan.configuration 0 (place_of client.groups 0).configuration).read (senders (reports_of client.groups 0)) (certified.quorums 0 (place_of client.groups 0).configuration (omega arith) (line_there 0 zero_there)).valid_read (reads 0 zero_there) in
      let first : (f : From) × IsIn f (reports_of client.groups 0) × ((f.sender == some.0) ≡ true) = any_passes (λ f. f.sender == some.0) (reports_of client.groups 0) some.1 in
      let one : (d : Contents) × IsIn d reported × (parent ≡ d.lineage) = newest-of reported first.0.contents (all_reports-has (reports_of client.groups) groups 0 first.0 zero_there first.1) in
      let d : Contents = one.0 in
      let came : (group : ℕ) × (group < groups) × (from : From) × IsIn from (reports_of client.groups group) × (from.contents ≡ d) = all_reports-from (reports_of client.groups) groups d one.1 in
      let event_result : IsMade world (Report came.0 (label v (place_of client.groups came.0).epoch) came.2.sender came.2.contents) × (last_epoch came.2.contents.lineage < v) = now.reading a came.0 came.1 came.2 came.3 in
      let report : MessageKept plan held world (Report came.0 (label v (place_of client.groups came.0).epoch) came.2.sender came.2.contents) = kept.messages _ event_result.0 in
      let copy : IsCopy world came.0 d = subst (λ z. IsCopy world came.0 z) came.4 report.0 in
      let p : ℕ = last_epoch parent in
      let same_last : last_epoch d.lineage ≡ p = ap last_epoch (sym one.2) in
      let known : parent ≡ lineage_of world p = one.2 ∙ copy.lineage ∙ ap (λ u. lineage_of world u) same_last in
      let below : last_epoch d.lineage < v = subst (λ z. last_epoch z.lineage < v) came.4 event_result.1 in
      let after : Client = record client { stage = Installing; lineage = lineage; found = found; log = found } in
      let child : IsHeir plan world v after = record {
        parent = p;
        below = omega arith;
        parent_cut = subst (λ u. HasCut world u) same_last copy.cut;
        lineage = ap (λ z. extended z v (cut_of (found_in z reported)) plan.lal) known ∙ ap (λ z. extended (lineage_of world p) v (cut_of (found_in (lineage_of world p) z)) plan.lal) (sym beyond);
        found = ap (λ z. log_found (found_in z reported)) known ∙ ap (λ z. log_found (found_in (lineage_of world p) z)) (sym beyond);
        event_result = λ group there from i. (
            let t : group < groups = from_there client.groups group from i in
            ((place_of client.groups group).epoch, (now.reading a group t from i).0, newest-most reported from.contents (all_reports-has (reports_of client.groups) groups group from t i)));
        reads = λ group there views. (
            let named : group < length q = place_in-there q group (views q viewed) in
            let t : group < groups = omega arith in
            record {
              at = (place_of client.groups group).epoch;
              positive = (at group t).positive;
              there = (at group t).there;
              was = (born.places group t).1;
              reads = subst (λ c. sat (plan.configuration group c).read (senders (reports_of client.groups group)) ≡ true) (at group t).configuration (reads group t);
              kept = λ from i. ((now.reading a group t from i).0, newest-most reported from.contents (all_reports-has (reports_of client.groups) groups group from t i));
            });
      } in
      subst (λ s. IsGoodMove plan world v s) (Ok-is _ step h3) (record {
        grows = grind (arith, common_steps);
        client = record {
          born = λ h. record { positive = born.positive; known = born.known; within = within; viewed = inl refl; places = born.places };
          reading = λ h. absurd (true≢false h);
          unjoined = λ h. absurd (true≢false (sym h));
          cut = λ h. record {
            own = [];
            log = refl;
            grown = tt;
            owned = λ r i. absurd i;
            origin = inr child;
            found_there = λ r i. (
                let (c, j, in_report, live) = found_in-from parent reported r (log_found-within records r i) in
                let (group, l, from, k, e) = all_reports-from (reports_of client.groups) groups c j in
                let said : MessageKept plan held world (Report group (label v (place_of client.groups group).epoch) from.sender from.contents) = kept.messages _ (now.reading a group l from k).0 in
                let is : r.group ≡ group = ((subst (λ z. IsCopy world group z) e said.0).records r in_report).1 in
                omega arith);
          };
          counts = now.counts;
          points = now.points;
        };
        says = installs_says after refl groups (place_of client.groups) found (λ group. true) (λ group t. refl);
      })

  -- a View of its epoch
  module _ (listed : List Place) (made : IsMade world (View v listed)) where
    view : IsView plan world v listed
    view = kept.messages _ made

    listed_within : length listed ≤ plan.groups
    listed_within = let a : length listed ≤ groups_joined world.authority = view.joined in let b : groups_joined world.authority ≤ plan.groups = kept.authority.within in omega arith

    new_placed : (group : ℕ) → group < length listed → PlaceGood group (place_in listed group)
    new_placed group there = (view.standing group there, inr (listed, made, refl))

    -- a place of a later epoch stands in the list
    later_there : (group : ℕ) (place : Place) → is_later place (place_in listed group) ≡ true → group < length listed
    later_there group place e = let up : place.epoch < (place_in listed group).epoch = ltb-true _ _ e in place_in-there listed group (omega arith)

    -- a group of the list that the client lacks is at a later epoch than none
    new_later : (group : ℕ) → group < length listed → is_later no_group.place (place_in listed group) ≡ true
    new_later group there = let p : 1 ≤ (place_in listed group).epoch = (view.standing group there).positive in lt-ltb 0 (place_in listed group).epoch (omega arith)

    -- a group that either list has, and the client lacks, stands in the View
    listed_there : (group : ℕ) → group < max (length client.groups) (length listed) → length client.groups ≤ group → group < length listed
    listed_there group there beyond = omega arith

    -- the groups, with_places on
    abbrev later : List ClientGroup
    later = with_places later_group client.groups listed

    later-at : (group : ℕ) → group_of later group ≡ later_group (group_of client.groups group) (place_in listed group)
    later-at group = group_of-with_places later_group later_group-none client.groups listed group

    later_reports : (group : ℕ) → reports_of later group ≡ reports_of client.groups group
    later_reports group =
        ap (λ g. g.reports) (later-at group) ∙ (elim (cases_Bool (is_later (place_of client.groups group) (place_in listed group))) [
          | inl e ↦ rw e refl
          | inr e ↦ rw e refl
        ])

    -- epochs only rise
    later_group_good : (group : ℕ) → (g : ClientGroup) → IsGoodGroup group g → IsGoodGroup group (later_group g (place_in listed group))
    later_group_good group g good =
        elim (cases_Bool (is_later g.place (place_in listed group))) [
          | inl e ↦ (
              let up : g.place.epoch < (place_in listed group).epoch = ltb-true _ _ e in
              let is : record g { place = place_in listed group } ≡ later_group g (place_in listed group) = rw e refl in
              subst (IsGoodGroup group) is (record {
                reports = good.reports;
                place = new_placed group (later_there group g.place e);
                counts = λ count i. (let t : (a : ℕ) × (a ≤ g.place.epoch) × IsMade world (Ack group (label v a) count.sender count.reached) = good.counts count i in let below : t.0 ≤ g.place.epoch = t.1 in (t.0, omega arith, t.2));
                point = good.point;
              }))
          | inr e ↦ (let is : g ≡ later_group g (place_in listed group) = rw e refl in subst (IsGoodGroup group) is good)
        ]

    later_long : length later ≡ max (length client.groups) (length listed)
    later_long = length-with_places later_group client.groups listed

    later_good : AreGood client.groups → AreGood later
    later_good good group there =
        let l : length later ≡ max (length client.groups) (length listed) = later_long in
        subst (IsGoodGroup group) (sym (later-at group)) (elim (cases_lt group (length client.groups)) [
          | inl old ↦ later_group_good group (group_of client.groups group) (good group old)
          | inr beyond ↦ (
              let t : group < length listed = listed_there group (omega arith) beyond in
              let none : group_of client.groups group ≡ no_group = group_of-beyond client.groups group beyond in
              let is : record no_group { place = place_in listed group } ≡ later_group no_group (place_in listed group) = rw (new_later group t) refl in
              let fresh : IsGoodGroup group (record no_group { place = place_in listed group }) = record { reports = ap (λ g. g.reports) (sym none); place = new_placed group t; counts = λ count i. absurd i; point = inl refl } in
              subst (λ g. IsGoodGroup group (later_group g (place_in listed group))) (sym none) (subst (IsGoodGroup group) is fresh))
        ])

    -- a group that hasn't joined then hadn't before, or is new
    later_unjoined_still : (stage : Stage) → has_cut client.stage ≡ true → AreUnjoined client → AreUnjoined (record client { stage = stage; groups = later })
    later_unjoined_still stage cut old group there not_yet r i same =
        elim (cases_lt group (length client.groups)) [
          | inl within ↦ old group within (sym (ap (λ g. g.joined) (later-at group) ∙ later_joined (group_of client.groups group) (place_in listed group)) ∙ not_yet) r i same
          | inr beyond ↦ (let l : r.group < length client.groups = (now.cut cut).found_there r i in omega arith)
        ]
      where
        later_joined : (g : ClientGroup) (place : Place) → (later_group g place).joined ≡ g.joined
        later_joined g place = elim (cases_Bool (is_later g.place place)) [ inl e ↦ rw e refl | inr e ↦ rw e refl ]

    -- the groups of a client that has not cut, with_places on
    abbrev reread : List ClientGroup
    reread = with_places reread_group client.groups listed

    -- what a client that has not cut may keep of a group
    record IsReadGroup (group : ℕ) (g : ClientGroup) : Type 0 where
      place : PlaceGood group g.place
      reports : (from : From) → IsIn from g.reports → IsMade world (Report group (label v g.place.epoch) from.sender from.contents) × (last_epoch from.contents.lineage < v)
      counts : CountsGood group g
      point : PointGood group g.group_point

    reread_group_good : (group : ℕ) → (g : ClientGroup) → IsReadGroup group g → IsReadGroup group (reread_group g (place_in listed group))
    reread_group_good group g good =
        elim (cases_Bool (is_later g.place (place_in listed group))) [
          | inl e ↦ (
              let up : g.place.epoch < (place_in listed group).epoch = ltb-true _ _ e in
              let is : record g { place = place_in listed group; reports = [] } ≡ reread_group g (place_in listed group) = rw e refl in
              subst (IsReadGroup group) is (record {
                place = new_placed group (later_there group g.place e);
                reports = λ from i. absurd i;
                counts = λ count i. (let t : (a : ℕ) × (a ≤ g.place.epoch) × IsMade world (Ack group (label v a) count.sender count.reached) = good.counts count i in let below : t.0 ≤ g.place.epoch = t.1 in (t.0, omega arith, t.2));
                point = good.point;
              }))
          | inr e ↦ (let is : g ≡ reread_group g (place_in listed group) = rw e refl in subst (IsReadGroup group) is good)
        ]

    reread_long : length reread ≡ max (length client.groups) (length listed)
    reread_long = length-with_places reread_group client.groups listed

    reread_good : has_cut client.stage ≡ false → is_born client.stage ≡ true → (group : ℕ) → group < length reread → IsReadGroup group (group_of reread group)
    reread_good n born group there =
        let l : length reread ≡ max (length client.groups) (length listed) = reread_long in
        subst (IsReadGroup group) (sym (group_of-with_places reread_group reread_group-none client.groups listed group))
        (elim (cases_lt group (length client.groups)) [
          | inl old ↦ reread_group_good group (group_of client.groups group)
              (record { place = (now.born born).places group old; reports = now.reading n group old; counts = now.counts group old; point = now.points group old })
          | inr beyond ↦ (
              let t : group < length listed = listed_there group (omega arith) beyond in
              let none : group_of client.groups group ≡ no_group = group_of-beyond client.groups group beyond in
              let is : record no_group { place = place_in listed group; reports = [] } ≡ reread_group no_group (place_in listed group) = rw (new_later group t) refl in
              let fresh : IsReadGroup group (record no_group { place = place_in listed group; reports = [] }) = record { place = new_placed group t; reports = λ from i. absurd i; counts = λ count i. absurd i; point = inl refl } in
              subst (λ g. IsReadGroup group (reread_group g (place_in listed group))) (sym none) (subst (IsReadGroup group) is fresh))
        ])

    -- a group that is new to the client
    new_good : (group : ℕ) → group < length listed → IsReadGroup group (group_of (map newly_at listed) group)
    new_good group there =
        subst (IsReadGroup group) (sym (group_of-new listed group))
        (record { place = new_placed group there; reports = λ from i. absurd i; counts = λ count i. absurd i; point = inl refl })

    -- nothing was found of a group that is raised and hasn't joined
    none_found : has_cut client.stage ≡ true → is_open client.stage ≡ true → (group : ℕ) → later_unjoined client.groups (place_in listed) group ≡ true → (r : Redo) → IsIn r client.found → r.group ≡ group → ⊥
    none_found cut is group t r i same =
        let parts : (later_in (place_of client.groups) (place_in listed) group ≡ true) × (not (group_of client.groups group).joined ≡ true) = and_parts _ _ t in
        elim (cases_lt group (length client.groups)) [
          | inl within ↦ now.unjoined is group within (not-true _ parts.1) r i same
          | inr beyond ↦ (let l : r.group < length client.groups = (now.cut cut).found_there r i in omega arith)
        ]

    born_there : (group : ℕ) → group < length (map newly_at listed) → group < length listed
    born_there group there = let l : length (map newly_at listed) ≡ length listed = length-map listed newly_at in omega arith

    viewed_good : (stage : Stage) → client.stage ≡ stage → IsGoodMove plan world v (viewed plan v client listed stage)
    viewed_good Unborn e = record {
      grows = (let n : has_cut client.stage ≡ false = ap has_cut e in record { cut = λ h. absurd (both_ways _ n h); lineage = λ h. absurd (both_ways _ n h); found = λ h. absurd (both_ways _ n h); logs = λ h. absurd (both_ways _ n h) });
      client = record {
        born = λ h. record { positive = view.positive; known = view.known; within = (let l : length (map newly_at listed) ≡ length listed = length-map listed newly_at in let w : length listed ≤ plan.groups = listed_within in omega arith); viewed = inr (listed, made, (let l : length (map newly_at listed) ≡ length listed = length-map listed newly_at in omega arith)); places = λ group there. (new_good group (born_there group there)).place };
        reading = λ h group there. (new_good group (born_there group there)).reports;
        cut = λ h. absurd (true≢false (sym h));
        unjoined = λ h. absurd (true≢false (sym h));
        counts = λ group there. (new_good group (born_there group there)).counts;
        points = λ group there. (new_good group (born_there group there)).point;
      };
      says = fences_says (record unborn { stage = Reading; groups = map newly_at listed }) (length listed) (place_in listed) (λ group. true);
    }
    viewed_good Reading e =
        let n : has_cut client.stage ≡ false = ap has_cut e in
        let born : is_born client.stage ≡ true = ap is_born e in
        let b : IsBorn plan world v client = now.born born in
        record {
          grows = record { cut = λ h. absurd (both_ways _ n h); lineage = λ h. absurd (both_ways _ n h); found = λ h. absurd (both_ways _ n h); logs = λ h. absurd (both_ways _ n h) };
          client = record {
            born = λ h. record {
              positive = b.positive;
              known = b.known;
              within = (let l : length reread ≡ max (length client.groups) (length listed) = reread_long in let w : length listed ≤ plan.groups = listed_within in let w' : length client.groups ≤ plan.groups = b.within in omega arith);
              viewed = elim b.viewed [ inl c ↦ inl c | inr q ↦ inr (q.0, q.1, (let s : length q.0 ≤ length client.groups = q.2 in let l : length reread ≡ max (length client.groups) (length listed) = reread_long in omega arith)) ];
              places = λ group there. (reread_good n born group there).place;
            };
            unjoined = λ h. absurd (both_ways _ (ap is_open e) h);
            reading = λ h group there. (reread_good n born group there).reports;
            cut = λ h. absurd (both_ways _ n h);
            counts = λ group there. (reread_good n born group there).counts;
            points = λ group there. (reread_good n born group there).point;
          };
          says = fences_says (record client { groups = reread }) (length listed) (place_of reread) (later_in (place_of client.groups) (place_in listed));
        }
    viewed_good Installing e =
        let cut : has_cut client.stage ≡ true = ap has_cut e in
        let w : length client.groups ≤ plan.groups = (now.born (born_from_cut client.stage cut)).within in
        let w' : length listed ≤ plan.groups = listed_within in
        let l : length later ≡ max (length client.groups) (length listed) = later_long in
        moved_good cut client.stage cut later later_reports (omega arith) (omega arith) (later_good (groups_good cut)) (λ is. absurd (both_ways _ (ap is_open e) is)) _
        (installs_says (record client { stage = client.stage; groups = later }) cut (length listed) (place_of later) client.found (later_in (place_of client.groups) (place_in listed)) (λ group t. refl))
    viewed_good Writing e =
        let cut : has_cut client.stage ≡ true = ap has_cut e in
        let is_writer : is_open client.stage ≡ true = ap is_open e in
        let w : length client.groups ≤ plan.groups = (now.born (born_from_cut client.stage cut)).within in
        let w' : length listed ≤ plan.groups = listed_within in
        let l : length later ≡ max (length client.groups) (length listed) = later_long in
        let l' : length (raised plan later) ≡ length later = length-raised plan later in
        moved_good cut client.stage cut (raised plan later) (λ group. raised_reports later group ∙ later_reports group) (omega arith) (omega arith) (raised_good later (later_good (groups_good cut)))
        (λ o. raised_unjoined client.stage later (later_unjoined_still client.stage cut (now.unjoined is_writer))) _
        (installs_says (record client { stage = client.stage; groups = raised plan later }) cut (length listed) (place_of later) [] (later_unjoined client.groups (place_in listed)) (λ group t. sym (of_group-none group client.found (none_found cut is_writer group t))))

  label-is : (l : Label) (volume member : ℕ) → l.volume ≡ volume → l.member ≡ member → l ≡ label volume member
  label-is l volume member a b = λ i. record { volume = a i; member = b i }

  -- a Report of its epoch
  report_good : (group : ℕ) (l : Label) (sender : ℕ) (c : Contents) → IsMade world (Report group l sender c) → l.volume ≡ v → IsGoodMove plan world v (stays (report_taken v client group l (record { sender = sender; contents = c })))
  report_good group l sender c made e =
      elim (cases_Bool ((not (has_cut client.stage)) && (l.member == (place_of client.groups group).epoch && nat_lt (last_epoch c.lineage) v))) [
        | inr no' ↦ rw no' (stays_good [] (λ m i. absurd i))
        | inl yes' ↦ rw yes' (
            let parts : (not (has_cut client.stage) ≡ true) × ((l.member == (place_of client.groups group).epoch && nat_lt (last_epoch c.lineage) v) ≡ true) = and_parts _ _ yes' in
            let n : has_cut client.stage ≡ false = not-true _ parts.0 in
            let both : (eqb l.member (place_of client.groups group).epoch ≡ true) × (nat_lt (last_epoch c.lineage) v ≡ true) = and_parts _ _ parts.1 in
            let at : l ≡ label v (place_of client.groups group).epoch = label-is l v (place_of client.groups group).epoch e (eqb-true _ _ both.0) in
            let made' : IsMade world (Report group (label v (place_of client.groups group).epoch) sender c) = subst (λ z. IsMade world (Report group z sender c)) at made in
            let with_report : ClientGroup = record (group_of client.groups group) { reports = with_first (record { sender = sender; contents = c }) (reports_of client.groups group) } in
            let as_long : length (slice_set client.groups group with_report) ≡ length client.groups = length-slice_set client.groups group with_report in
            record {
              grows = record { cut = λ h. absurd (both_ways _ n h); lineage = λ h. absurd (both_ways _ n h); found = λ h. absurd (both_ways _ n h); logs = λ h. absurd (both_ways _ n h) };
              client = record {
                born = grind (arith, common_steps);
                unjoined = λ is. absurd (both_ways _ n (cut_from_open client.stage is));
                reading = λ h k there. set-all no_group (λ g x. g < length client.groups → (from : From) → IsIn from x.reports → IsMade world (Report g (label v x.place.epoch) from.sender from.contents) × (last_epoch from.contents.lineage < v)) client.groups group with_report
                    (λ there from i. elim (with_first-from (record { sender = sender; contents = c }) (reports_of client.groups group) from i) [
                      | inl new ↦ subst (λ z. IsMade world (Report group (label v (place_of client.groups group).epoch) z.sender z.contents) × (last_epoch z.contents.lineage < v)) (sym new) (made', ltb-true _ _ both.1)
                      | inr old ↦ now.reading n group there from old
                    ])
                    (now.reading n) k (omega arith);
                cut = λ h. absurd (both_ways _ n h);
                counts = λ k there. set-all no_group (λ g x. g < length client.groups → CountsGood g x) client.groups group with_report (now.counts group) now.counts k (omega arith);
                points = λ k there. set-all no_group (λ g x. g < length client.groups → PointGood g x.group_point) client.groups group with_report (now.points group) now.points k (omega arith);
              };
              says = λ m i. absurd i;
            })
      ]

  -- an acknowledgement of its epoch
  ack_good : (group : ℕ) (l : Label) (sender reached : ℕ) → IsMade world (Ack group l sender reached) → l.volume ≡ v → IsGoodMove plan world v (stays (ack_taken plan client group l sender reached))
  ack_good group l sender reached made e =
      elim (cases_Bool (has_cut client.stage && nat_le l.member (place_of client.groups group).epoch)) [
        | inr no' ↦ rw no' (stays_good [] (λ m i. absurd i))
        | inl yes' ↦ rw yes' (
            let parts : (has_cut client.stage ≡ true) × (nat_le l.member (place_of client.groups group).epoch ≡ true) = and_parts _ _ yes' in
            let cut : has_cut client.stage ≡ true = parts.0 in
            let at : l ≡ label v l.member = label-is l v l.member e refl in
            let made' : IsMade world (Ack group (label v l.member) sender reached) = subst (λ z. IsMade world (Ack group z sender reached)) at made in
            let with_ack : ClientGroup = record (group_of client.groups group) { counts = with_count sender reached (counts_of client.groups group) } in
            let groups : List ClientGroup = slice_set client.groups group with_ack in
            let as_long : length groups ≡ length client.groups = length-slice_set client.groups group with_ack in
            let good : AreGood groups = λ k there.
            set-all no_group (λ g x. g < length client.groups → IsGoodGroup g x) client.groups group with_ack
            (λ there. (let old : IsGoodGroup group (group_of client.groups group) = groups_good cut group there in record {
              reports = old.reports;
              place = old.place;
              counts = λ count i. elim (with_count-from sender reached (counts_of client.groups group) count i) [
                | inl new ↦ (l.member, leb-true _ _ parts.1, subst (λ s. IsMade world (Ack group (label v l.member) count.sender s)) (sym new.1) (subst (λ y. IsMade world (Ack group (label v l.member) y reached)) (sym new.0) made'))
                | inr older ↦ (
                    let t : (a : ℕ) × (a ≤ (place_of client.groups group).epoch) × IsMade world (Ack group (label v a) older.0.sender older.0.reached) = old.counts older.0 older.1 in
                    (t.0, t.1, subst (λ s. IsMade world (Ack group (label v t.0) count.sender s)) (sym older.3) (subst (λ y. IsMade world (Ack group (label v t.0) y older.0.reached)) (sym older.2) t.2)))
              ];
              point = old.point;
            }))
            (groups_good cut) k (omega arith) in
            let same : (g : ℕ) → reports_of groups g ≡ reports_of client.groups g = set-all no_group (λ g x. x.reports ≡ reports_of client.groups g) client.groups group with_ack refl (λ g. refl) in
            let joined : (k : ℕ) → (group_of groups k).joined ≡ (group_of client.groups k).joined = set-all no_group (λ g x. x.joined ≡ (group_of client.groups g).joined) client.groups group with_ack refl (λ g. refl) in
            let unjoined : is_open client.stage ≡ true → AreUnjoined (record client { groups = groups }) = λ is k there not_yet. now.unjoined is k (omega arith) (sym (joined k) ∙ not_yet) in
            let within : length client.groups ≤ plan.groups = (now.born (born_from_cut client.stage cut)).within in
            let l : length (groups_now plan client.stage groups) ≡ length groups = now_long client.stage groups in
            moved_good cut client.stage cut (groups_now plan client.stage groups) (now_reports client.stage groups same) (omega arith) (omega arith) (now_good client.stage groups good) (λ is. now_unjoined client.stage client.stage groups (unjoined is)) [] (λ m i. absurd i))
      ]
    where
      now_good : (stage : Stage) (groups : List ClientGroup) → AreGood groups → AreGood (groups_now plan stage groups)
      now_good Unborn groups good = good
      now_good Reading groups good = good
      now_good Installing groups good = good
      now_good Writing groups good = raised_good groups good

      now_long : (stage : Stage) (groups : List ClientGroup) → length (groups_now plan stage groups) ≡ length groups
      now_long Unborn groups = refl
      now_long Reading groups = refl
      now_long Installing groups = refl
      now_long Writing groups = length-raised plan groups

      now_unjoined : (at stage : Stage) (groups : List ClientGroup) → AreUnjoined (record client { stage = at; groups = groups }) → AreUnjoined (record client { stage = at; groups = groups_now plan stage groups })
      now_unjoined at Unborn groups h = h
      now_unjoined at Reading groups h = h
      now_unjoined at Installing groups h = h
      now_unjoined at Writing groups h = raised_unjoined at groups h

      now_reports : (stage : Stage) (groups : List ClientGroup) → ((g : ℕ) → reports_of groups g ≡ reports_of client.groups g) → (g : ℕ) → reports_of (groups_now plan stage groups) g ≡ reports_of client.groups g
      now_reports Unborn groups same = same
      now_reports Reading groups same = same
      now_reports Installing groups same = same
      now_reports Writing groups same = λ g. raised_reports groups g ∙ same g

  taken_good : (m : Message) → IsMade world m → (step : ClientStep) → taken plan v client m ≡ Ok step → IsGoodMove plan world v step
  taken_good (View of places) made step h =
      let (a, h1) = refuse_if-ok (not (of == v)) NotAddressed _ step h in
      let (b, h2) = refuse_if-ok (not (are_places plan places)) NotInPlan _ step h1 in
      let e : of ≡ v = eqb-true of v (not-false _ a) in
      subst (λ s. IsGoodMove plan world v s) (Ok-is _ step h2) (viewed_good places (subst (λ u. IsMade world (View u places)) e made) client.stage refl)
  taken_good (Report group l sender c) made step h =
      let (a, h1) = refuse_if-ok (not (l.volume == v && (nat_lt group plan.groups && (in_group group c && nat_lt sender 64)))) NotAddressed _ step h in
      let (b, h2) = refuse_if-ok (not (is_born client.stage)) NoActor _ step h1 in
      let e : l.volume ≡ v = eqb-true l.volume v (and_parts (eqb l.volume v) (nat_lt group plan.groups && (in_group group c && nat_lt sender 64)) (not-false _ a)).0 in
      subst (λ s. IsGoodMove plan world v s) (Ok-is _ step h2) (report_good group l sender c made e)
  taken_good (Ack group l sender reached) made step h =
      let (a, h1) = refuse_if-ok (not (l.volume == v && (nat_lt group plan.groups && nat_lt sender 64))) NotAddressed _ step h in
      let (b, h2) = refuse_if-ok (not (is_born client.stage)) NoActor _ step h1 in
      let e : l.volume ≡ v = eqb-true l.volume v (and_parts (eqb l.volume v) (nat_lt group plan.groups && nat_lt sender 64) (not-false _ a)).0 in
      subst (λ s. IsGoodMove plan world v s) (Ok-is _ step h2) (ack_good group l sender reached made e)
  taken_good (Page group l sender block point bytes) made step h = grind (arith, common_steps)
  taken_good m made step h = cc

  pub take_good : (number : ℕ) (step : ClientStep) → take plan v client (numbered world.messages number) ≡ Ok step → IsGoodMove plan world v step
  take_good number step h = go (numbered world.messages number) refl h
    where
      go : (found : Option Message) → numbered world.messages number ≡ found → take plan v client found ≡ Ok step → IsGoodMove plan world v step
      go None e h = cc
      go (Some m) e h = taken_good m (numbered-in world.messages number m e) step h

  pub issue_kept : (changes : List Change) → IsKept plan held (after_step world (of_client world v (issued plan v (world.clients v) changes)))
  issue_kept changes = client_step _ (issued_good changes)

  pub take_kept : (number : ℕ) → IsKept plan held (after_step world (of_client world v (take plan v (world.clients v) (numbered world.messages number))))
  take_kept number = client_step _ (take_good number)

  pub cut_kept : IsKept plan held (after_step world (of_client world v (cut_client plan v (world.clients v))))
  cut_kept = client_step _ cut_good

  pub open_kept : IsKept plan held (after_step world (of_client world v (opened plan (world.clients v))))
  open_kept = client_step _ opened_good

  pub resend_kept : (lsn : ℕ) → IsKept plan held (after_step world (of_client world v (resent v (world.clients v) lsn)))
  resend_kept lsn = client_step _ (resent_good lsn)

  pub read_kept : (group block : ℕ) → IsKept plan held (after_step world (of_client world v (page_asked v (world.clients v) group block)))
  read_kept group block = client_step _ (asked_good group block)
