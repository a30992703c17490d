-- From members that hold what the recovery found to a commit of its own.
use Rattle.std.proofs.Common.{◌≡◌, ℕ, zero, suc, ◌+◌, ◌<◌, ◌≤◌, ◌^◌, max, true, false, not, ◌&&◌, ◌==◌, nat_lt, nat_le, List, [], ◌∷◌, Ok, length, refl, sym, ap, ◌∙◌, subst, inl, inr, arith, slice_index_or, slice_set}
use Rattle.std.proofs.lemmas.Bool.{cases_Bool, cases_lt, and_from, and_right, or_left, or_right, true≢false, eq-eqb, lt-ltb, le-ltb, le-leb, lt-leb}
use Rattle.volume_model.specs.Common.{IsIn, added, put, put_at, KeepsClaim, KeepsClaims, Members, sat, Redo, holds_record, is_same, same_numbers, spelling, of_group, last_lsn, last_of_group, scl, up_to, with_record, Lineage, last_epoch, last_start, Plan, IsCertified, has_member, is_named, Place, Message, Write, Ack, NodeAnswer, NodeStep, lineage_epoch, most_records, reaction, ClientAnswer, ClientGroup, group_of, place_of, counts_of, group_point_of, has_cut, is_open, no_group, place_configuration, stays, Writing, complete_of, consistency_point_below, counted_by, durable_point, is_consistency_point, reaching, raised, raised_group, with_count, taken, Acknowledges, Change, issued, record_of, has_installed, opened, writing, IsRaised, NumbersGrow, World, Event, after, after_step, groups_joined, of_client, run, Open, Issue, Deliver, Take}
use Rattle.volume_model.specs.Node.{Node}
use Rattle.volume_model.specs.Client.{Client}
use Rattle.volume_model.proofs.Basics.{any_from, put_at-all}
use Rattle.volume_model.proofs.Chains.{last_of_group-above}
use Rattle.volume_model.proofs.ClientSteps.{put-same}
use Rattle.volume_model.proofs.FormulaLaws.{sat-own}
use Rattle.volume_model.proofs.Groups.{group_of-raised, length-raised, length-slice_set, raised-keeps, set-all}
use Rattle.volume_model.proofs.Invariant.{HasCut, IsCopy, IsMade, found_of, label, lineage_of, log_of}
use Rattle.volume_model.proofs.Kept.{IsWhole}
use Rattle.volume_model.proofs.Logs.{IsChain, at_most_of_up_to}
use Rattle.volume_model.proofs.Points.{all_complete, complete_greatest, group_point_is_greatest, grow_chain, is_point-from}
use Rattle.volume_model.proofs.Ordered.{of_group-ordered, same_set}
use Rattle.volume_model.proofs.Records.{of_group-from, of_group-has, with_record-from, with_record-has, with_record-keeps}
use Rattle.volume_model.proofs.Renewed.{IsKeptWorld}
use Rattle.volume_model.proofs.Run.{event_kept}
use Rattle.volume_model.proofs.Sound.{cut_client, facts, is_sound}
use Rattle.plan.specs.Common.{HasWriteSets}
use Rattle.world.proofs.Readable.{IsIn-kept, Reaches, delivered, every_below_true, has_number, reach_none, reach_one, reach_then, set-here, some_below_true, took}
use Rattle.world.proofs.Chained.{complete_up_to}
use Rattle.world.proofs.Counts.{reaching-keeps, reaching-lower, reaching-new}
use Rattle.world.proofs.Installing.{IsCounted, IsInstalled, IsReady, IsRecovering, at, epoch_at, is_member, place_at}
use Rattle.std.proofs.lemmas.Grind.{common_steps}

-- the change of one byte, in block 0 of the first group
abbrev pub first_change : Change
first_change = record { group = 0; block = 0; offset = 0; bytes = 0 ∷ [] }

-- each group's point is at least what its write sets have reached
abbrev pub AreRaised : Plan → List ClientGroup → Type 0
AreRaised plan groups = (g n : ℕ) → g < length groups
    → sat (place_configuration plan g (place_of groups g)).write (reaching (counts_of groups g) n) ≡ true → n ≤ group_point_of groups g

-- raising does this
raised_are : (plan : Plan) → IsCertified plan → (groups : List ClientGroup) → length groups ≤ plan.groups
    → ((g : ℕ) → g < length groups → (place_of groups g).configuration < plan.configurations g) → AreRaised plan (raised plan groups)
raised_are plan certified groups within there g n l h =
    let small : g < length groups = subst (λ k. g < k) (length-raised plan groups) l in
    let e : group_of (raised plan groups) g ≡ raised_group plan g (group_of groups g) = group_of-raised plan groups g small in
    let is : IsRaised plan g (group_of groups g) = group_point_is_greatest.of_plans plan certified g (group_of groups g) (omega arith) (there g small) in
    let h' : sat (place_configuration plan g (place_of groups g)).write (reaching (counts_of groups g) n) ≡ true = grind (arith, common_steps) in
    let most : n ≤ is.number_written = is.greatest.at_least_each n h' in
    let p : (raised_group plan g (group_of groups g)).group_point ≡ max (group_of groups g).group_point is.number_written = is.point in
    subst (λ (k : ClientGroup). n ≤ k.group_point) (sym e) (subst (λ k. n ≤ k) (sym p) (omega arith))

same_numbers-refl : (xs : List ℕ) → same_numbers xs xs ≡ true
same_numbers-refl [] = refl
same_numbers-refl (x ∷ xs) = and_from (x == x) (same_numbers xs xs) (eq-eqb x x refl) (same_numbers-refl xs)

is_same-refl : (r : Redo) → is_same r r ≡ true
is_same-refl r = same_numbers-refl (spelling r)

-- the records up to a number have no greater one
last_within : (n : ℕ) (log : List Redo) → IsChain log → last_lsn (up_to n log) ≤ n
last_within n log c = go (up_to n log) (at_most_of_up_to n log c)
  where
    go : (older : List Redo) → ((r : Redo) → IsIn r older → r.lsn ≤ n) → last_lsn older ≤ n
    go [] h = omega arith
    go (r ∷ older) h = h r (inl refl)

-- what a recovery finds lies within its start
pub found_within : (plan : Plan) → IsCertified plan → (world : World) → IsKeptWorld plan world → (v : ℕ) → HasCut world v
    → last_lsn (found_of world v) ≤ last_start (lineage_of world v)
found_within plan certified world known v cut = grind (arith, common_steps, is_sound, lineage_of, IsChain, log_of, facts, last_within, (is_sound plan certified world known.kept), (lineage_of world v))

module _ (plan : Plan) (claims : KeepsClaims plan) (certified : IsCertified plan) (writes : HasWriteSets plan) (v : ℕ) (now : List ℕ) (line : Lineage) (records : List Redo) where
  -- a set that has a configuration's members satisfies its write expression
  all_write : (g c : ℕ) → g < plan.groups → c < plan.configurations g → (s : Members)
      → ((x : ℕ) → has_member (plan.configuration g c) x ≡ true → x < 64 → s x ≡ true) → sat (plan.configuration g c).write s ≡ true
  all_write g c there below s h =
      let claim : KeepsClaim (plan.configuration g c) = claims.quorums g c there below in
      sym (sat-own (plan.configuration g c).write (has_member (plan.configuration g c)) (has_member (plan.configuration g c)) s claim.write_own
      (λ x own. own ∙ sym (h x own (claim.members_below x own)))) ∙ writes g c there below

  -- The recovery is open at the groups' places. It has counted each member, and each member of the first group has what
  -- it found.
  pub record IsCommitting (u : World) : Type 0 where
    pub in_run : IsKeptWorld plan u
    pub configurations : u.authority.configurations ≡ now
    pub stage : (u.clients v).stage ≡ Writing
    pub groups : length (u.clients v).groups ≡ length now
    pub places : (g : ℕ) → g < length now → place_of (u.clients v).groups g ≡ place_at plan v now line records g
    pub lineage : (u.clients v).lineage ≡ line
    pub found : (u.clients v).found ≡ records
    pub raised : AreRaised plan (u.clients v).groups
    pub counted : (g x : ℕ) → g < length now → is_member plan v now line records g x ≡ true → x < 64 → IsCounted plan v now line records u g x
    pub joined : (g : ℕ) → g < length now → (group_of (u.clients v).groups g).joined ≡ true
    pub installed : (x : ℕ) → is_member plan v now line records 0 x ≡ true → x < 64 → IsInstalled plan v now line records u 0 x
    pub volume : (x : ℕ) → (u.nodes 0 x).volume ≤ v

  -- the configuration of each group is one of the plan's
  conf_there : (u : World) → IsKeptWorld plan u → u.authority.configurations ≡ now → (g : ℕ) → g < length now
      → (g < plan.groups) × (at plan v now line records g < plan.configurations g)
  conf_there u known same g l =
      let w : length u.authority.configurations ≤ plan.groups = known.kept.authority.within in
      let e : length u.authority.configurations ≡ length now = ap length same in
      let there : g < plan.groups = omega arith in
      (there, subst (λ (cs : List ℕ). slice_index_or cs g 0 < plan.configurations g) same (known.kept.authority.there g there))

  -- ---- the opening

  opens : (u : World) → IsRecovering plan v now line records u → ((g x : ℕ) → g < length now → is_member plan v now line records g x ≡ true → x < 64 → IsReady plan v now line records u g x)
      → (later : World) × Reaches plan u later × IsCommitting later × ((later.clients v).log ≡ records)
  opens u r ready =
      let client : Client = u.clients v in
      let there : (g : ℕ) → g < length client.groups → (g < length now) = λ g l. subst (λ k. g < k) r.groups l in
      let written : (g : ℕ) → g < length client.groups → sat (place_configuration plan g (place_of client.groups g)).write (counted_by (counts_of client.groups g)) ≡ true = λ g l. (
      let (in_plan, below) = conf_there u r.in_run r.configurations g (there g l) in
      subst (λ (p : Place). sat (place_configuration plan g p).write (counted_by (counts_of client.groups g)) ≡ true) (sym (r.places g (there g l)))
      (all_write g (at plan v now line records g) in_plan below (counted_by (counts_of client.groups g))
      (λ x member small. reaching-lower (counts_of client.groups g) (last_of_group g records) 0 x (omega arith) (ready g x (there g l) member small).1))) in
      let installed : has_installed plan client ≡ true = every_below_true (length client.groups) (λ g. sat (place_configuration plan g (place_of client.groups g)).write (counted_by (counts_of client.groups g))) written in
      let next : Client = writing plan client in
      let is : ◌≡◌ {A = ClientAnswer} (opened plan client) (Ok (record { made = []; client = next })) = rw (r.stage, installed) refl in
      let e : after plan u (Open v) ≡ record u { clients = put u.clients v next; messages = u.messages } = ap (λ a. after_step u (of_client u v a)) is in
      let run_on : IsKeptWorld plan (after plan u (Open v)) = event_kept plan certified u r.in_run.kept (Open v) in
      let here : next ≡ put u.clients v next v = sym (put-same u.clients v next) in
      let w : length u.authority.configurations ≤ plan.groups = r.in_run.kept.authority.within in
      let long : length u.authority.configurations ≡ length now = ap length r.configurations in
      let count : length client.groups ≡ length now = r.groups in
      let raised_now : AreRaised plan (raised plan client.groups) = raised_are plan certified client.groups (omega arith)
      (λ g l. subst (λ (p : Place). p.configuration < plan.configurations g) (sym (r.places g (there g l))) (conf_there u r.in_run r.configurations g (there g l)).1) in (
        after plan u (Open v),
        reach_one plan u (Open v),
        subst IsCommitting (sym e) (record {
          in_run = subst (IsKeptWorld plan) e run_on;
          configurations = r.configurations;
          stage = ap (λ (c : Client). c.stage) (sym here);
          groups = ap (λ (c : Client). length c.groups) (sym here) ∙ length-raised plan client.groups ∙ r.groups;
          places = λ g l. ap (λ (c : Client). place_of c.groups g) (sym here) ∙ raised-keeps (λ k. k.place) (λ p k g. refl) plan client.groups g ∙ r.places g l;
          lineage = ap (λ (c : Client). c.lineage) (sym here) ∙ r.lineage;
          found = ap (λ (c : Client). c.found) (sym here) ∙ r.found;
          raised = subst (λ (c : Client). AreRaised plan c.groups) here raised_now;
          counted = λ g x l member small. subst (λ (c : Client). reaching (counts_of c.groups g) (last_of_group g records) x ≡ true) here
              (subst (λ counts. reaching counts (last_of_group g records) x ≡ true) (sym (raised-keeps (λ k. k.counts) (λ p k g. refl) plan client.groups g)) (ready g x l member small).1);
          joined = λ g l. subst (λ (c : Client). (group_of c.groups g).joined ≡ true) here
              (let inside : g < length client.groups = omega arith in
              subst (λ (k : ClientGroup). k.joined ≡ true) (sym (group_of-raised plan client.groups g inside)) (or_right (group_of client.groups g).joined _ (written g inside)));
          installed = λ x member small. (
              let i : IsInstalled plan v now line records u 0 x = (ready 0 x (first_there u r.in_run r.configurations) member small).0 in
              record { whole = i.whole; lineage = i.lineage; epoch = i.epoch });
          volume = r.volume 0;
        }),
        subst (λ (z : World). (z.clients v).log ≡ records) (sym e) (ap (λ (c : Client). c.log) (sym here) ∙ r.log),
      )
    where
      first_there : (u : World) → IsKeptWorld plan u → u.authority.configurations ≡ now → 0 < length now
      first_there u known same =
          let b : plan.born ≤ length u.authority.configurations = known.kept.authority.born in
          let p : 0 < plan.born = certified.born_there in
          let e : length u.authority.configurations ≡ length now = ap length same in
          omega arith

  -- ---- the first record

  -- the record of the first change
  abbrev pub first_record : Redo
  first_record = record_of v (last_start line) records first_change true

  -- the recovery has issued its first record, and the Write was made
  pub record IsWriting (u : World) : Type 0 where
    pub committing : IsCommitting u
    pub log : (u.clients v).log ≡ first_record ∷ records
    pub written : IsMade u (Write 0 (label v (epoch_at plan v now line records 0)) first_record)

  issues : (u : World) → IsCommitting u → (u.clients v).log ≡ records → last_start line < 2 ^ 62 → 0 < length now
      → (later : World) × Reaches plan u later × IsWriting later
  issues u r log left first =
      let client : Client = u.clients v in
      let w : Place = place_at plan v now line records 0 in
      let cut : HasCut u v = ap has_cut r.stage in
      let within : last_lsn records ≤ last_start line =
      subst (λ (c : List Redo). last_lsn c ≤ last_start line) r.found (subst (λ (c : Lineage). last_lsn client.found ≤ last_start c) r.lineage (found_within plan certified u r.in_run v cut)) in
      let lal : 1 ≤ plan.lal = certified.lal_positive in
      let many : 0 < length client.groups = (let g : length client.groups ≡ length now = r.groups in omega arith) in
      let next : Client = record client { log = first_record ∷ records } in
      let made : List Message = Write 0 (label v (epoch_at plan v now line records 0)) first_record ∷ [] in
      let spent : nat_lt (2 ^ 62) (max (last_lsn records) (last_start line) + 1) ≡ false = le-ltb (2 ^ 62) (max (last_lsn records) (last_start line) + 1) (omega arith) in
      let durable : ℕ = consistency_point_below (complete_of (group_point_of client.groups) records) records in
      let limit : nat_lt (max durable (last_start line) + plan.lal) (max (last_lsn records) (last_start line) + 1) ≡ false =
      le-ltb (max durable (last_start line) + plan.lal) (max (last_lsn records) (last_start line) + 1) (omega arith) in
      let is : ◌≡◌ {A = ClientAnswer} (issued plan v client (first_change ∷ [])) (Ok (record { made = made; client = next })) =
      rw (r.stage, r.lineage, log, lt-ltb 0 (length client.groups) many, r.joined 0 first, spent, limit, r.places 0 first) refl in
      let e : after plan u (Issue v (first_change ∷ [])) ≡ record u { clients = put u.clients v next; messages = added made u.messages } = ap (λ a. after_step u (of_client u v a)) is in
      let run_on : IsKeptWorld plan (after plan u (Issue v (first_change ∷ []))) = event_kept plan certified u r.in_run.kept (Issue v (first_change ∷ [])) in
      let here : next ≡ put u.clients v next v = sym (put-same u.clients v next) in (
        after plan u (Issue v (first_change ∷ [])),
        reach_one plan u (Issue v (first_change ∷ [])),
        subst IsWriting (sym e) (record {
          committing = record {
            in_run = subst (IsKeptWorld plan) e run_on;
            configurations = r.configurations;
            stage = ap (λ (c : Client). c.stage) (sym here) ∙ r.stage;
            groups = ap (λ (c : Client). length c.groups) (sym here) ∙ r.groups;
            places = λ g l. ap (λ (c : Client). place_of c.groups g) (sym here) ∙ r.places g l;
            lineage = ap (λ (c : Client). c.lineage) (sym here) ∙ r.lineage;
            found = ap (λ (c : Client). c.found) (sym here) ∙ r.found;
            raised = subst (λ (c : Client). AreRaised plan c.groups) here r.raised;
            counted = λ g x l member small. subst (λ (c : Client). reaching (counts_of c.groups g) (last_of_group g records) x ≡ true) here (r.counted g x l member small);
            joined = λ g l. subst (λ (c : Client). (group_of c.groups g).joined ≡ true) here (r.joined g l);
            installed = λ x member small. (let i : IsInstalled plan v now line records u 0 x = r.installed x member small in record { whole = i.whole; lineage = i.lineage; epoch = i.epoch });
            volume = r.volume;
          };
          log = ap (λ (c : Client). c.log) (sym here);
          written = inl refl;
        }),
      )

  -- ---- one member takes the record, and the recovery counts its acknowledgement

  -- The member acknowledges the record.
  takes_record : (u : World) → IsWriting u → (x : ℕ) → is_member plan v now line records 0 x ≡ true → x < 64 → 0 < length now
      → length (of_group 0 records) < most_records
      → (later : World) × Reaches plan u later × IsWriting later × (later.clients v ≡ u.clients v)
      × ((s : ℕ) × (first_record.lsn ≤ s) × IsMade later (Ack 0 (label v (epoch_at plan v now line records 0)) x s))
  takes_record u writing x member small first room =
      let r : IsCommitting u = writing.committing in
      let node : Node = u.nodes 0 x in
      let here : IsInstalled plan v now line records u 0 x = r.installed x member small in
      let (in_plan, below) = conf_there u r.in_run r.configurations 0 first in
      let known : IsWhole plan r.in_run.held u 0 x node = (r.in_run.kept.nodes 0 x in_plan).whole here.whole in
      let copy : IsCopy u 0 node.contents = known.copy in
      let cut : HasCut u v = ap has_cut r.stage in
      let inside : (t : Redo) → IsIn t node.contents.records → IsIn t (first_record ∷ records) × (t.group ≡ 0) = λ t i. (
      let both : IsIn t (log_of u (last_epoch node.contents.lineage)) × (t.group ≡ 0) = copy.records t i in
      (subst (IsIn t) writing.log (subst (λ k. IsIn t (log_of u k)) here.lineage both.0), both.1)) in
      let has : (t : Redo) → IsIn t records → t.group ≡ 0 → IsIn t node.contents.records = λ t i g.
      copy.found t (subst (λ k. IsIn t (found_of u k)) (sym here.lineage) (subst (IsIn t) (sym r.found) i)) g in
      let full : (not (holds_record first_record node.contents.records) && nat_le most_records (length node.contents.records)) ≡ false =
      elim (cases_Bool (holds_record first_record node.contents.records)) [
        | inl held ↦ rw held refl
        | inr free ↦ (
            let same : node.contents.records ≡ of_group 0 records = same_set node.contents.records (of_group 0 records) known.ordered (of_group-ordered 0 records)
            (λ t i. elim (inside t i).0 [
              | inl p ↦ absurd (true≢false (sym (any_from (is_same first_record) node.contents.records t i (subst (λ z. is_same first_record z ≡ true) (sym p) (is_same-refl first_record))) ∙ free))
              | inr j ↦ of_group-has 0 records t j (inside t i).1
            ])
            (λ t i. (let both : IsIn t records × (t.group ≡ 0) = of_group-from 0 records t i in has t both.0 both.1)) in
            and_right (not (holds_record first_record node.contents.records)) _ (lt-leb most_records (length node.contents.records) (subst (λ z. length z < most_records) (sym same) room)))
      ] in
      let all : List Redo = with_record first_record node.contents.records in
      let ep : ℕ = epoch_at plan v now line records 0 in
      let step : NodeStep = record { made = Ack 0 (label v ep) x (scl all) ∷ []; node = record node { contents = record { lineage = node.contents.lineage; records = all } } } in
      let at_epoch : node.place.epoch ≡ ep = here.epoch in
      let volume_below : node.volume ≤ v = r.volume x in
      let is : ◌≡◌ {A = NodeAnswer} (reaction plan 0 x node (Write 0 (label v ep) first_record)) (Ok step) =
      rw (le-ltb ep node.place.epoch (omega arith), le-ltb node.place.epoch ep (omega arith), here.whole, le-ltb v node.volume volume_below, eq-eqb (lineage_epoch node) v here.lineage, full) refl in
      let (n, few, numbered_is) = has_number u.messages (Write 0 (label v ep) first_record) writing.written in
      let there : 0 < groups_joined u.authority = subst (λ (cs : List ℕ). 0 < length cs) (sym r.configurations) first in
      let named : is_named plan 0 x ≡ true = and_from (nat_lt 0 plan.groups) _ (lt-ltb 0 plan.groups in_plan)
      (some_below_true (plan.configurations 0) (λ c. has_member (plan.configuration 0 c) x) (at plan v now line records 0) below member) in
      let e : after plan u (Deliver 0 x n) ≡ record u { nodes = put_at u.nodes 0 x step.node; messages = added step.made u.messages } =
      delivered plan u 0 x n (Write 0 (label v ep) first_record) step there named numbered_is is in
      let run_on : IsKeptWorld plan (after plan u (Deliver 0 x n)) = event_kept plan certified u r.in_run.kept (Deliver 0 x n) in
      let chain : IsChain (first_record ∷ records) = subst IsChain writing.log (facts plan certified u r.in_run.kept v cut).chain in
      let reaches : first_record.lsn ≤ scl all = complete_up_to 0 all (first_record ∷ records) chain
      (λ t i. elim (with_record-from first_record node.contents.records t i) [ inl p ↦ inl p | inr j ↦ (inside t j).0 ])
      (λ t i g. elim i [ inl p ↦ subst (λ z. IsIn z all) (sym p) (with_record-has first_record node.contents.records) | inr j ↦ with_record-keeps first_record node.contents.records t (has t j g) ])
      first_record (inl refl) refl in
      let P : ℕ → ℕ → Node → Type 0 = λ k y n. k ≡ 0 → is_member plan v now line records 0 y ≡ true → y < 64 → (n.whole ≡ true) × (lineage_epoch n ≡ v) × (n.place.epoch ≡ ep) in
      let still : (y : ℕ) → P 0 y (put_at u.nodes 0 x step.node 0 y) = put_at-all P u.nodes 0 x step.node (λ z m s. (here.whole, here.lineage, here.epoch))
      (λ k y z m s. (let i : IsInstalled plan v now line records u 0 y = r.installed y m s in subst (λ j. ((u.nodes j y).whole ≡ true) × (lineage_epoch (u.nodes j y) ≡ v) × ((u.nodes j y).place.epoch ≡ ep)) (sym z) (i.whole, i.lineage, i.epoch))) 0 in (
        after plan u (Deliver 0 x n),
        reach_one plan u (Deliver 0 x n),
        subst IsWriting (sym e) (record {
          committing = record {
            in_run = subst (IsKeptWorld plan) e run_on;
            configurations = r.configurations;
            stage = r.stage;
            groups = r.groups;
            places = r.places;
            lineage = r.lineage;
            found = r.found;
            raised = r.raised;
            counted = r.counted;
            joined = r.joined;
            installed = λ y m s. (let (w, l, p) = still y refl m s in record { whole = w; lineage = l; epoch = p });
            volume = λ y. put_at-all (λ k z (n : Node). k ≡ 0 → n.volume ≤ v) u.nodes 0 x step.node (λ z. volume_below) (λ k z q. subst (λ j. (u.nodes j z).volume ≤ v) (sym q) (r.volume z)) 0 y refl;
          };
          log = writing.log;
          written = IsIn-kept step.made u.messages _ writing.written;
        }),
        ap (λ (z : World). z.clients v) e,
        (scl all, reaches, subst (λ z. IsMade z (Ack 0 (label v ep) x (scl all))) (sym e) (inl refl)),
      )

  -- The recovery counts the acknowledgement.
  counts_ack : (u : World) → IsWriting u → (x s : ℕ) → x < 64 → 0 < length now → first_record.lsn ≤ s
      → IsMade u (Ack 0 (label v (epoch_at plan v now line records 0)) x s)
      → (later : World) × Reaches plan u later × IsWriting later
      × ((n y : ℕ) → reaching (counts_of (u.clients v).groups 0) n y ≡ true → reaching (counts_of (later.clients v).groups 0) n y ≡ true)
      × (reaching (counts_of (later.clients v).groups 0) first_record.lsn x ≡ true)
  counts_ack u writing x s small first above made =
      let r : IsCommitting u = writing.committing in
      let client : Client = u.clients v in
      let ep : ℕ = epoch_at plan v now line records 0 in
      let old : ClientGroup = group_of client.groups 0 in
      let counted : ClientGroup = record old { counts = with_count x s old.counts } in
      let set : List ClientGroup = slice_set client.groups 0 counted in
      let next : Client = record client { groups = raised plan set } in
      let count : length client.groups ≡ length now = r.groups in
      let inside : 0 < length client.groups = omega arith in
      let (in_plan, below) = conf_there u r.in_run r.configurations 0 first in
      let at_epoch : old.place.epoch ≡ ep = ap (λ (p : Place). p.epoch) (r.places 0 first) in
      let is : ◌≡◌ {A = ClientAnswer} (taken plan v client (Ack 0 (label v ep) x s)) (Ok (stays next)) =
      rw (eq-eqb v v refl, lt-ltb 0 plan.groups in_plan, lt-ltb x 64 small, r.stage, le-leb ep old.place.epoch (omega arith)) refl in
      let (n, few, found) = has_number u.messages (Ack 0 (label v ep) x s) made in
      let e : after plan u (Take v n) ≡ record u { clients = put u.clients v next; messages = u.messages } = took plan u v n (Ack 0 (label v ep) x s) (stays next) found is in
      let run_on : IsKeptWorld plan (after plan u (Take v n)) = event_kept plan certified u r.in_run.kept (Take v n) in
      let here : next ≡ put u.clients v next v = sym (put-same u.clients v next) in
      let long : length set ≡ length client.groups = length-slice_set client.groups 0 counted in
      let same_place : (k : ℕ) → place_of set k ≡ place_of client.groups k = set-all no_group (λ j group. group.place ≡ place_of client.groups j) client.groups 0 counted refl (λ j. refl) in
      let keeps : (k n y : ℕ) → reaching (counts_of client.groups k) n y ≡ true → reaching (counts_of set k) n y ≡ true = λ k n y.
      set-all no_group (λ j group. reaching (counts_of client.groups j) n y ≡ true → reaching group.counts n y ≡ true) client.groups 0 counted (reaching-keeps x s old.counts n y) (λ j h. h) k in
      let joins : (k : ℕ) → (group_of client.groups k).joined ≡ true → (group_of set k).joined ≡ true =
      set-all no_group (λ j group. (group_of client.groups j).joined ≡ true → group.joined ≡ true) client.groups 0 counted (λ h. h) (λ j h. h) in
      let keeps_on : (k n y : ℕ) → reaching (counts_of client.groups k) n y ≡ true → reaching (counts_of next.groups k) n y ≡ true = λ k n y h.
      subst (λ counts. reaching counts n y ≡ true) (sym (raised-keeps (λ g. g.counts) (λ p j g. refl) plan set k)) (keeps k n y h) in
      let new : reaching (counts_of next.groups 0) first_record.lsn x ≡ true =
      subst (λ counts. reaching counts first_record.lsn x ≡ true) (sym (raised-keeps (λ g. g.counts) (λ p j g. refl) plan set 0))
      (subst (λ (g : ClientGroup). reaching g.counts first_record.lsn x ≡ true) (sym (set-here client.groups 0 counted inside)) (reaching-new x s old.counts first_record.lsn above)) in
      let w : length u.authority.configurations ≤ plan.groups = r.in_run.kept.authority.within in
      let many : length u.authority.configurations ≡ length now = ap length r.configurations in
      let raised_now : AreRaised plan (raised plan set) = raised_are plan certified set (omega arith)
      (λ g l. (
      let there : g < length now = omega arith in
      subst (λ (p : Place). p.configuration < plan.configurations g) (sym (same_place g ∙ r.places g there)) (conf_there u r.in_run r.configurations g there).1)) in (
        after plan u (Take v n),
        reach_one plan u (Take v n),
        subst IsWriting (sym e) (record {
          committing = record {
            in_run = subst (IsKeptWorld plan) e run_on;
            configurations = r.configurations;
            stage = ap (λ (c : Client). c.stage) (sym here) ∙ r.stage;
            groups = ap (λ (c : Client). length c.groups) (sym here) ∙ length-raised plan set ∙ long ∙ r.groups;
            places = λ g l. ap (λ (c : Client). place_of c.groups g) (sym here) ∙ raised-keeps (λ k. k.place) (λ p k g. refl) plan set g ∙ same_place g ∙ r.places g l;
            lineage = ap (λ (c : Client). c.lineage) (sym here) ∙ r.lineage;
            found = ap (λ (c : Client). c.found) (sym here) ∙ r.found;
            raised = subst (λ (c : Client). AreRaised plan c.groups) here raised_now;
            counted = λ g y l member below. subst (λ (c : Client). reaching (counts_of c.groups g) (last_of_group g records) y ≡ true) here (keeps_on g (last_of_group g records) y (r.counted g y l member below));
            joined = λ g l. subst (λ (c : Client). (group_of c.groups g).joined ≡ true) here
                (let within : g < length set = omega arith in
                subst (λ (k : ClientGroup). k.joined ≡ true) (sym (group_of-raised plan set g within)) (or_left (group_of set g).joined _ (joins g (r.joined g l))));
            installed = λ y member below. (let i : IsInstalled plan v now line records u 0 y = r.installed y member below in record { whole = i.whole; lineage = i.lineage; epoch = i.epoch });
            volume = r.volume;
          };
          log = ap (λ (c : Client). c.log) (sym here) ∙ writing.log;
          written = writing.written;
        }),
        subst (λ (z : World). (n y : ℕ) → reaching (counts_of client.groups 0) n y ≡ true → reaching (counts_of (z.clients v).groups 0) n y ≡ true) (sym e)
            (λ m y h. subst (λ (c : Client). reaching (counts_of c.groups 0) m y ≡ true) here (keeps_on 0 m y h)),
        subst (λ (z : World). reaching (counts_of (z.clients v).groups 0) first_record.lsn x ≡ true) (sym e) (subst (λ (c : Client). reaching (counts_of c.groups 0) first_record.lsn x ≡ true) here new),
      )

  -- the members of the first group below a number have acknowledged the record
  abbrev pub HaveAcked : World → ℕ → Type 0
  HaveAcked u most = (x : ℕ) → x < most → is_member plan v now line records 0 x ≡ true → reaching (counts_of (u.clients v).groups 0) first_record.lsn x ≡ true

  all_ack : (u : World) → IsWriting u → 0 < length now → length (of_group 0 records) < most_records → (most : ℕ) → most ≤ 64
      → (later : World) × Reaches plan u later × IsWriting later × HaveAcked later most
  all_ack u writing first room zero few = (u, reach_none plan u, writing, (λ x none m. absurd (omega arith)))
  all_ack u writing first room (suc most) few =
      let (a, ua, wa, ha) = all_ack u writing first room most (omega arith) in
      elim (cases_Bool (is_member plan v now line records 0 most)) [
        | inl member ↦ (
            let (b, ab, wb, same, (s, above, made)) = takes_record a wa most member (omega arith) first room in
            let (c, bc, wc, keeps, new) = counts_ack b wb most s (omega arith) first above made in (
              c,
              reach_then plan u b c (reach_then plan u a b ua ab) bc,
              wc,
              (λ x l m. elim (cases_lt x most) [
                | inl lower ↦ keeps first_record.lsn x (subst (λ (k : Client). reaching (counts_of k.groups 0) first_record.lsn x ≡ true) (sym same) (ha x lower m))
                | inr last ↦ (let e : x ≡ most = omega arith in subst (λ k. reaching (counts_of (c.clients v).groups 0) first_record.lsn k ≡ true) (sym e) new)
              ]),
            ))
        | inr other ↦ (
          a,
          ua,
          wa,
          (λ x l m. elim (cases_lt x most) [
            | inl lower ↦ ha x lower m
            | inr last ↦ (let e : x ≡ most = omega arith in absurd (true≢false (sym m ∙ ap (is_member plan v now line records 0) e ∙ other)))
          ]),
        )
      ]

  -- ---- the commit

  commits : (u : World) → IsWriting u → 0 < length now → HaveAcked u 64 → Acknowledges u v first_record.lsn
  commits u writing first acked =
      let r : IsCommitting u = writing.committing in
      let client : Client = u.clients v in
      let cut : HasCut u v = ap has_cut r.stage in
      let count : length client.groups ≡ length now = r.groups in
      let chain : IsChain (first_record ∷ records) = subst IsChain writing.log (facts plan certified u r.in_run.kept v cut).chain in
      let point_of : (g n : ℕ) → g < length now → ((x : ℕ) → is_member plan v now line records g x ≡ true → x < 64 → reaching (counts_of client.groups g) n x ≡ true) → n ≤ group_point_of client.groups g = λ g n l h. (
      let (in_plan, below) = conf_there u r.in_run r.configurations g l in
      r.raised g n (omega arith) (subst (λ (p : Place). sat (place_configuration plan g p).write (reaching (counts_of client.groups g) n) ≡ true) (sym (r.places g l))
      (all_write g (at plan v now line records g) in_plan below (reaching (counts_of client.groups g) n) h))) in
      let first_point : first_record.lsn ≤ group_point_of client.groups 0 = point_of 0 first_record.lsn first (λ x m small. acked x small m) in
      let covered : (t : Redo) → IsIn t (first_record ∷ records) → t.lsn ≤ group_point_of client.groups t.group = λ t i. elim i [
        | inl p ↦ subst (λ (z : Redo). z.lsn ≤ group_point_of client.groups z.group) (sym p) first_point
        | inr j ↦ (
            let there : t.group < length client.groups = (cut_client plan certified u r.in_run.kept v cut).found_there t (subst (IsIn t) (sym r.found) j) in
            let l : t.lsn ≤ last_of_group t.group records = last_of_group-above t.group records chain.1 t j refl in
            let p : last_of_group t.group records ≤ group_point_of client.groups t.group = point_of t.group (last_of_group t.group records) (omega arith) (λ x m small. r.counted t.group x (omega arith) m small) in
            omega arith)
      ] in
      let grows : NumbersGrow (first_record ∷ records) = grow_chain (first_record ∷ records) chain in
      let complete : complete_of (group_point_of client.groups) (first_record ∷ records) ≡ first_record.lsn =
      all_complete (group_point_of client.groups) (first_record ∷ records) grows (complete_greatest (group_point_of client.groups) (first_record ∷ records) grows) covered in
      let point : is_consistency_point first_record.lsn (first_record ∷ records) ≡ true = is_point-from first_record.lsn (first_record ∷ records) first_record (inl refl) refl refl in
      let durable : consistency_point_below first_record.lsn (first_record ∷ records) ≡ first_record.lsn = rw (le-leb first_record.lsn first_record.lsn (omega arith)) refl in
      let durable_is : durable_point client ≡ first_record.lsn =
      ap (λ (log : List Redo). consistency_point_below (complete_of (group_point_of client.groups) log) log) writing.log
      ∙ ap (λ n. consistency_point_below n (first_record ∷ records)) complete ∙ durable in
      let is_open_now : is_open client.stage ≡ true = ap is_open r.stage in
      let point_now : is_consistency_point first_record.lsn client.log ≡ true = subst (λ (log : List Redo). is_consistency_point first_record.lsn log ≡ true) (sym writing.log) point in
      and_from (is_open client.stage) _ is_open_now
      (and_from (is_consistency_point first_record.lsn client.log) _ point_now (le-leb first_record.lsn (durable_point client) (omega (arith, durable_is))))

  -- From members that are ready some events lead to a commit above the recovery's start.
  pub ready_commits : (u : World) → IsRecovering plan v now line records u
      → ((g x : ℕ) → g < length now → is_member plan v now line records g x ≡ true → x < 64 → IsReady plan v now line records u g x)
      → last_start line < 2 ^ 62 → length (of_group 0 records) < most_records
      → (more : List Event) × (n : ℕ) × (last_start line < n) × Acknowledges (run plan u more) v n × (((run plan u more).clients v).lineage ≡ line)
  ready_commits u r ready left room =
      let first : 0 < length now = (
      let b : plan.born ≤ length u.authority.configurations = r.in_run.kept.authority.born in
      let p : 0 < plan.born = certified.born_there in
      let e : length u.authority.configurations ≡ length now = ap length r.configurations in
      omega arith) in
      let (a, ua, ra, log) = opens u r ready in
      let (b, ab, wb) = issues a ra log left first in
      let (c, bc, wc, acked) = all_ack b wb first room 64 (omega arith) in
      let (more, is) = reach_then plan u b c (reach_then plan u a b ua ab) bc in
      (more, first_record.lsn, omega arith, subst (λ z. Acknowledges z v first_record.lsn) (sym is) (commits c wc first acked), ap (λ (z : World). (z.clients v).lineage) is ∙ wc.committing.lineage)
