-- A volume whose groups can be read goes on.
use Rattle.std.proofs.Common.{◌≡◌, ℕ, suc, ◌+◌, ◌*◌, ◌<◌, ◌≤◌, ◌^◌, true, false, max, ◌&&◌, ◌==◌, nat_lt, List, Ok, length, refl, sym, ap, ◌∙◌, subst, inl, inr, arith}
use Rattle.std.proofs.lemmas.Bool.{cases_Bool, and_parts, eqb-true, le-ltb, ltb-true}
use Rattle.volume_model.specs.Common.{KeepsClaims, Members, sat, Redo, cut_of, last_lsn, of_group, up_to, Contents, Lineage, extended, is_live, last_epoch, last_start, newest, Plan, IsCertified, has_member, IsIn, added, put, Place, Report, From, most_copies, most_records, senders, ClientAnswer, ClientStep, has_cut, place_configuration, place_of, reports_of, Reading, cut_client, cut_step, has_read, live_reported, log_reported, reported, World, after, after_step, configuration_of, groups_joined, of_client, opening, run, Cut, Acknowledges}
use Rattle.volume_model.specs.Node.{Node}
use Rattle.volume_model.specs.Client.{Client}
use Rattle.volume_model.proofs.Basics.{any_passes, every_below-all}
use Rattle.volume_model.proofs.Chains.{Within, cut_reached, log_found-is}
use Rattle.volume_model.proofs.ClientSteps.{put-same}
use Rattle.volume_model.proofs.FormulaLaws.{sat-some}
use Rattle.volume_model.proofs.Invariant.{HasCut, IsCopy, label, lineage_of, log_of}
use Rattle.volume_model.proofs.Kept.{MessageKept}
use Rattle.volume_model.proofs.Logs.{IsChain, at_most_last, from_up_to}
use Rattle.volume_model.proofs.Ordered.{in_order, of_group-ordered}
use Rattle.volume_model.proofs.Records.{all_reports-from, all_reports-has, found_in-from, newest-most, newest-of, of_group-from, of_group-has}
use Rattle.volume_model.proofs.Sound.{facts}
use Rattle.volume_model.proofs.Claims.{claims_certify}
use Rattle.volume_model.proofs.Run.{opening_kept, run_kept}
use Rattle.volume_model.proofs.Renewed.{IsKeptWorld}
use Rattle.plan.specs.Common.{HasWriteSets}
use Rattle.world.specs.Waiting.{CanBeRead, whole_in}
use Rattle.world.specs.Onward.{Commits, HasRoom, ReadableVolumesCommit}
use Rattle.world.proofs.Volumes.{VolumesKnown, volumes_known}
use Rattle.world.proofs.Readable.{HasPlace, HasStep, IsReading, Reaches, all_heard, begins, has_read_all, reach_one, reach_then, reads_members, steps_known}
use Rattle.world.proofs.Asked.{HasAsked, HasWholeRoots, asked_known, roots_known, run_asked}
use Rattle.world.proofs.Copies.{included_shorter}
use Rattle.world.proofs.Cutting.{cut_installing}
use Rattle.world.proofs.Installing.{CanCopy, IsRecovering}
use Rattle.world.proofs.Hydrating.{hydrated_from}
use Rattle.world.proofs.Installs.{installed_one}
use Rattle.world.proofs.Members.{HydratesOne, everyone_ready}
use Rattle.world.proofs.Started.{HasStarted, run_started, starts_known}
use Rattle.world.proofs.Commits.{ready_commits}
use Rattle.std.proofs.lemmas.Grind.{common_steps}
use Rattle.std.proofs.Common.{rules}

-- A member that isn't whole becomes whole, and one copy of each node is used up.
hydrates_one : (plan : Plan) → IsCertified plan → (v : ℕ) (now : List ℕ) (line : Lineage) (records : List Redo) → last_epoch line ≡ v → HydratesOne plan v now line records
hydrates_one plan certified v now line records head u i roots g x l own small fresh fits readers ready reads n left =
    let (later, reached, installing, keeps, here, elsewhere, is) = hydrated_from plan certified v now line records head u i roots g x l own fresh fits readers ready reads n (left g) in (
      later,
      reached,
      installing,
      keeps,
      (λ h y. elim (cases_Bool (h == g)) [
        | inl same ↦ subst (λ k. (later.nodes k y).copied + n ≤ most_copies) (sym (eqb-true h g same)) (here y)
        | inr other ↦ grind (arith, common_steps)
      ]),
      is.whole,
    )

-- What a recovery that has read goes on with: the log of an earlier client.
record IsHeirOf (plan : Plan) (u : World) (v : ℕ) : Type 0 where
  parent : ℕ
  cut : HasCut u parent
  other : parent ≡ v → ⊥
  lineage : newest (reported (u.clients v)) ≡ lineage_of u parent
  within : Within (live_reported (u.clients v)) (log_of u parent)
  below : cut_of (live_reported (u.clients v)) ≤ last_lsn (log_of u parent)
  found : log_reported (u.clients v) ≡ up_to (cut_of (live_reported (u.clients v))) (log_of u parent)

heir_of : (plan : Plan) → IsCertified plan → (u : World) → IsKeptWorld plan u → (v : ℕ) → (u.clients v).stage ≡ Reading → 0 < length (u.clients v).groups
    → (from : From) → IsIn from (reports_of (u.clients v).groups 0) → IsHeirOf plan u v
heir_of plan certified u known v stage some first there =
    let client : Client = u.clients v in
    let groups : ℕ = length client.groups in
    let uncut : has_cut client.stage ≡ false = ap has_cut stage in
    let reports : List Contents = reported client in
    let all_known : (c : Contents) → IsIn c reports → (group : ℕ) × IsCopy u group c × (last_epoch c.lineage < v) = λ c i. (
    let (group, l, from, j, e) = all_reports-from (reports_of client.groups) groups c i in
    let (made, older) = (known.kept.clients v).reading uncut group l from j in
    let kept : MessageKept plan known.held u (Report group (label v (place_of client.groups group).epoch) from.sender from.contents) = known.kept.messages _ made in
    (group, subst (IsCopy u group) e kept.0, subst (λ (z : Contents). last_epoch z.lineage < v) e older)) in
    let (d, in_reports, is) = newest-of reports first.contents (all_reports-has (reports_of client.groups) groups 0 first some there) in
    let (g, copy, older) = all_known d in_reports in
    let p : ℕ = last_epoch d.lineage in
    let lineage : newest reports ≡ lineage_of u p = is ∙ copy.lineage in
    let log : List Redo = log_of u p in
    let chain : IsChain log = (facts plan certified u known.kept p copy.cut).chain in
    let within : Within (live_reported client) log = λ r i. (
    let (c, j, k, live) = found_in-from (newest reports) reports r i in
    let (group, own, before) = all_known c j in
    let most : last_epoch c.lineage ≤ p = subst (λ z. last_epoch c.lineage ≤ last_epoch z) is (newest-most reports c j) in
    (facts plan certified u known.kept p copy.cut).stands (last_epoch c.lineage) most own.cut r (own.records r k).0 (subst (λ z. is_live z r.volume r.lsn ≡ true) lineage live)) in
    search (rules, cut_reached, at_most_last, log_found-is)

module _ (plan : Plan) (claims : KeepsClaims plan) (certified : IsCertified plan) (writes : HasWriteSets plan) (world : World) (known : IsKeptWorld plan world) (volumes : VolumesKnown world)
    (placed : (g x : ℕ) → HasPlace g x (world.nodes g x)) (steps : (g : ℕ) → HasStep plan world g) (left : world.authority.last_volume < 4294967295) where
  abbrev v : ℕ
  v = suc world.authority.last_volume

  abbrev now : List ℕ
  now = world.authority.configurations

  module _ (asked : HasAsked world) (roots : HasWholeRoots plan world) (started : (g x : ℕ) → HasStarted plan g (world.nodes g x))
      (readable : (g : ℕ) → g < groups_joined world.authority → CanBeRead plan world g) (room : HasRoom plan world) where
    -- the group's whole members, as far as its configuration has them
    abbrev readers : ℕ → Members
    readers g y = whole_in world g y && (has_member (plan.configuration g (configuration_of world.authority g)) y && nat_lt y 64)

    -- the first group has joined
    first_there : 0 < length now
    first_there =
        let b : plan.born ≤ length now = known.kept.authority.born in
        let p : 0 < plan.born = certified.born_there in
        omega arith

    -- a recovery that has read has a report of the first group
    heir : (u : World) → IsReading plan certified world known volumes placed steps left u → has_read plan (u.clients v) ≡ true → IsHeirOf plan u v
    heir u r read =
        let client : Client = u.clients v in
        let some : 0 < length client.groups = (let e : length client.groups ≡ length now = r.groups in let f : 0 < length now = first_there in omega arith) in
        let c : ℕ = (place_of client.groups 0).configuration in
        let in_plan : 0 < plan.groups = (let b : plan.born ≤ plan.groups = certified.born_within in let p : 0 < plan.born = certified.born_there in omega arith) in
        let there : c < plan.configurations 0 = subst (λ (p : Place). p.configuration < plan.configurations 0) (sym (r.places 0 first_there)) (known.kept.authority.there 0 in_plan) in
        let own : sat (plan.configuration 0 c).read (senders (reports_of client.groups 0)) ≡ true = every_below-all (length client.groups)
        (λ g. sat (place_configuration plan g (place_of client.groups g)).read (senders (reports_of client.groups g))) read 0 some in
        let (y, sent) = sat-some (plan.configuration 0 c).read (senders (reports_of client.groups 0)) (certified.quorums 0 c in_plan there).valid_read own in
        let (from, i, p) = any_passes (λ (f : From). f.sender == y) (reports_of client.groups 0) sent in
        heir_of plan certified u r.in_run v r.stage some from i

    -- what the log that it goes on with leaves
    record IsRoomy (u : World) : Type 0 where
      start : last_start (extended (newest (reported (u.clients v))) v (cut_of (live_reported (u.clients v))) plan.lal) < 2 ^ 62
      fits : (g : ℕ) → g < length now → length (of_group g (log_reported (u.clients v))) ≤ most_records
      one_more : length (of_group 0 (log_reported (u.clients v))) < most_records

    roomy : (u : World) → IsReading plan certified world known volumes placed steps left u → IsHeirOf plan u v → IsRoomy u
    roomy u r h =
        let p : ℕ = h.parent in
        let same : u.clients p ≡ world.clients p = r.others p h.other in
        let cut : has_cut (world.clients p).stage ≡ true = subst (λ (c : Client). has_cut c.stage ≡ true) same h.cut in
        let below : cut_of (live_reported (u.clients v)) ≤ last_lsn (world.clients p).log = subst (λ (c : Client). cut_of (live_reported (u.clients v)) ≤ last_lsn c.log) same h.below in
        let lineage : newest (reported (u.clients v)) ≡ (world.clients p).lineage = h.lineage ∙ ap (λ (c : Client). c.lineage) same in
        let lsn : max (last_lsn (world.clients p).log) (last_start (world.clients p).lineage) + plan.lal < 2 ^ 62 = room.lsn p cut in
        let shorter : (g : ℕ) → length (of_group g (log_reported (u.clients v))) ≤ length (of_group g (world.clients p).log) = λ g.
        included_shorter (of_group g (log_reported (u.clients v))) (of_group g (world.clients p).log) (in_order (of_group g (log_reported (u.clients v))) (of_group-ordered g (log_reported (u.clients v)))) (in_order (of_group g (world.clients p).log) (of_group-ordered g (world.clients p).log))
        (λ s i. (
        let (j, own) = of_group-from g (log_reported (u.clients v)) s i in
        let k : IsIn s (log_of u p) = from_up_to (cut_of (live_reported (u.clients v))) (log_of u p) s (subst (IsIn s) h.found j) in
        of_group-has g (world.clients p).log s (subst (λ (c : Client). IsIn s c.log) same k) own)) in
        record {
          start = subst (λ (z : Lineage). max (cut_of (live_reported (u.clients v))) (last_start z) + plan.lal < 2 ^ 62) (sym lineage) (omega arith);
          fits = λ g l. (let a : length (of_group g (log_reported (u.clients v))) ≤ length (of_group g (world.clients p).log) = shorter g in let b : length (of_group g (world.clients p).log) ≤ most_records = room.fits p g cut l in omega arith);
          one_more = (let a : length (of_group 0 (log_reported (u.clients v))) ≤ length (of_group 0 (world.clients p).log) = shorter 0 in let b : length (of_group 0 (world.clients p).log) < most_records = room.one_more p cut in omega arith);
        }

    -- A recovery that has read cuts, makes each member ready, opens and commits.
    from_cut : (u : World) → IsReading plan certified world known volumes placed steps left u → Reaches plan world u → has_read plan (u.clients v) ≡ true → Commits plan world v
    from_cut u r to_u read =
        let client : Client = u.clients v in
        let own : Lineage = extended (newest (reported client)) v (cut_of (live_reported client)) plan.lal in
        let enough : IsRoomy u = roomy u r (heir u r read) in
        let step : ClientStep = cut_step v client (log_reported client) own in
        let start : last_start own < 2 ^ 62 = enough.start in
        let is : ◌≡◌ {A = ClientAnswer} (cut_client plan v client) (Ok step) = rw (r.stage, read, le-ltb (2 ^ 62) (last_start own) (omega arith)) refl in
        let (events, to_u_is) = to_u in
        let asked_then : HasAsked u = subst HasAsked to_u_is (run_asked plan certified events world known asked roots).0 in
        let started_then : (g x : ℕ) → HasStarted plan g (u.nodes g x) =
        subst (λ (z : World). (g x : ℕ) → HasStarted plan g (z.nodes g x)) to_u_is (run_started plan certified events world known started) in
        let (line, records, installing, head, few, nodes, authority) = cut_installing plan certified world known volumes placed steps left u r step is asked_then started_then in
        let b : World = after plan u (Cut v) in
        let b_is : b ≡ record u { clients = put u.clients v step.client; messages = added step.made u.messages } = ap (λ a. after_step u (of_client u v a)) is in
        let here : b.clients v ≡ step.client = ap (λ (z : World). z.clients v) b_is ∙ put-same u.clients v step.client in
        let i : IsRecovering plan v now line records b = installing.recovering in
        let line_is : own ≡ line = sym (ap (λ (c : Client). c.lineage) here) ∙ i.lineage in
        let records_are : log_reported client ≡ records = sym (ap (λ (c : Client). c.found) here) ∙ i.found in
        let in_plan : (g : ℕ) → g < length now → g < plan.groups = λ g l. (let w : length now ≤ plan.groups = known.kept.authority.within in omega arith) in
        let whole_now : (g y : ℕ) → (world.nodes g y).whole ≡ true → (b.nodes g y).whole ≡ true = λ g y w. ap (λ (f : ℕ → ℕ → Node). (f g y).whole) nodes ∙ r.whole g y w in
        let copies : CanCopy b (64 * length now) = λ g x. subst (λ k. k + 64 * length now ≤ most_copies) (sym (ap (λ (f : ℕ → ℕ → Node). (f g x).copied) nodes ∙ r.copied g x)) (room.copies g x) in
        let (c, bc, ic, ready) = everyone_ready plan v now line records (installed_one plan certified v now line records head) (hydrates_one plan certified v now line records head)
        (λ g l. subst (λ z. length (of_group g z) ≤ most_records) records_are (enough.fits g l)) b readers
        (λ g y h. (
        let (w, rest) = and_parts (whole_in world g y) _ h in
        let (m, s) = and_parts (has_member (plan.configuration g (configuration_of world.authority g)) y) (nat_lt y 64) rest in
        (ltb-true y 64 s, m, whole_now g y w)))
        (λ g l. reads_members plan claims g (configuration_of world.authority g) (whole_in world g) (in_plan g l) (known.kept.authority.there g (in_plan g l)) (readable g l))
        installing (λ g y h. whole_now g y (roots g y h)) copies in
        let to_c : Reaches plan world c = reach_then plan world b c (reach_then plan world u b to_u (reach_one plan u (Cut v))) bc in
        let (more, n, above, acknowledged, lineage_then) = ready_commits plan claims certified writes v now line records c ic.recovering ready
        (subst (λ (z : Lineage). last_start z < 2 ^ 62) line_is start) (subst (λ z. length (of_group 0 z) < most_records) records_are enough.one_more) in
        let (all, is_all) = reach_then plan world c (run plan c more) to_c (more, refl) in (
          all,
          n,
          subst (λ (z : World). last_start (z.clients v).lineage < n) (sym is_all) (subst (λ (z : Lineage). last_start z < n) (sym lineage_then) above),
          subst (λ z. Acknowledges z v n) (sym is_all) acknowledged,
        )

    pub goes_on : Commits plan world v
    goes_on =
        let (u, wu, ru) = begins plan certified world known volumes placed steps left in
        let (end, ue, re, heard_all) = all_heard plan certified world known volumes placed steps left (groups_joined world.authority) (omega arith) u ru in
        from_cut end re (reach_then plan world u end wu ue)
        (has_read_all plan certified world known volumes placed steps left (reads_members plan claims) readable end re heard_all)

pub readable_volumes_commit : ReadableVolumesCommit
readable_volumes_commit plan claims writes events readable left room =
    let certified : IsCertified plan = claims_certify plan claims in
    let world : World = run plan (opening plan) events in
    let known : IsKeptWorld plan world = run_kept plan certified events (opening plan) (opening_kept plan certified) in
    let (placed, steps) = steps_known plan certified events in
    goes_on plan claims certified writes world known (volumes_known plan certified events) placed steps left (asked_known plan certified events) (roots_known plan certified events)
    (starts_known plan certified events) readable room
