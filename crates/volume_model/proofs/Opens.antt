-- A client that opens has its cut as its durable point
use Rattle.std.proofs.Common.{◌≡◌, ℕ, ◌<◌, ◌≤◌, max, true, false, not, ◌&&◌, ◌⊎◌, List, [], ◌∷◌, Result, Ok, Err, refl, sym, ap, ◌∙◌, subst, inl, inr, arith, length}
use Rattle.std.proofs.lemmas.Bool.{and_parts, not-false}
use Rattle.volume_model.specs.Common.{IsIn, Formula, sat, Redo, last_lsn, cut_of, log_found, Plan, IsCertified, ClientStep, ClientAnswer, Count, is_born, has_cut, is_open, place_of, counts_of, group_point_of, place_configuration, reaching, counted_by, best, raised, complete_of, consistency_point_below, opened, has_installed, Writing, World, Event, Step, opening, run, step, of_client, Open, VolumeLinksFall, IsFoundPoint, AreOnTheWay, IsWrittenTo, last_cut, IsAtItsCut, OpensAtItsCut}
use Rattle.volume_model.proofs.FormulaLaws.{sat_more}
use Rattle.volume_model.specs.Client.{Client}
use Rattle.volume_model.proofs.Groups.{group_of-raised}
use Rattle.volume_model.proofs.Logs.{IsChain, prev_below}
use Rattle.volume_model.proofs.Line.{IsLine}
use Rattle.volume_model.proofs.Leading.{cut_greatest, log_led}
use Rattle.volume_model.proofs.Filled.{IsFilled, filled}
use Rattle.volume_model.proofs.Points.{reaching-some, reaching-from, best-greatest, grow_chain, all_complete, complete_greatest}
use Rattle.volume_model.proofs.Invariant.{epoch_now, path, log_of, HasCut, label}
use Rattle.volume_model.proofs.Kept.{IsPlace, IsKept, records_of}
use Rattle.volume_model.proofs.Renewed.{IsKeptWorld}
use Rattle.volume_model.proofs.NodeSteps.{refuse_if-ok}
use Rattle.volume_model.proofs.Basics.{every_below-all}
use Rattle.volume_model.proofs.ClientSteps.{put-same}
use Rattle.volume_model.proofs.Run.{run_kept, opening_kept}
use Rattle.volume_model.proofs.Sound.{Facts, facts, is_sound, cut_client, records_within}
use Rattle.volume_model.proofs.Finds.{run_tidy}
use Rattle.volume_model.proofs.AcksReach.{acks_reach, found_chain}
use Rattle.volume_model.specs.declared.fault.Fault.TheVariants.{NoActor, AlreadyDone, NotReady}
use Rattle.std.proofs.lemmas.Grind.{common_steps}

-- ---- the log found, as it ends

-- a log that is empty where the number is 0, and else begins with a consistency point of that number
abbrev EndsAt : ℕ → List Redo → Type 0
EndsAt n [] = n ≡ 0
EndsAt n (r ∷ older) = (r.lsn ≡ n) × (r.point ≡ true)

way_ends : (records : List Redo) → VolumeLinksFall records → (n : ℕ) → (n ≡ 0) ⊎ IsFoundPoint records n → (log : List Redo) → AreOnTheWay records n log → EndsAt n log
way_ends records fall n found [] way = way
way_ends records fall n (inl z) (r ∷ older) way = absurd (let (i, e) = at_some in let k : r.prev_volume < r.lsn = fall r i in omega arith)
  where
    at_some : IsIn r records × (r.lsn ≡ n)
    at_some = Rattle.volume_model.proofs.Chains.record_at-some records n r way.0
way_ends records fall n (inr found) (r ∷ older) way = grind (arith, common_steps)

-- the durable point of such a log that is covered as a whole
durable_at : (n : ℕ) (log : List Redo) → EndsAt n log → consistency_point_below (last_lsn log) log ≡ n
durable_at n [] h = sym h
durable_at n (r ∷ older) h = grind (arith, common_steps)

module _ (plan : Plan) (certified : IsCertified plan) (events : List Event) (v : ℕ) where
  -- the world before the opening
  abbrev world : World
  world = run plan (opening plan) events

  -- the client that opens
  abbrev client : Client
  client = world.clients v

  known : IsKeptWorld plan world
  known = run_kept plan certified events (opening plan) (opening_kept plan certified)

  kept : IsKept plan known.held world
  kept = known.kept

  -- what the log found ends with
  found_ends : HasCut world v → EndsAt (last_cut client.lineage) client.found
  found_ends cut =
      elim (cut_client plan certified world kept v cut).origin [
        | inl root ↦ subst (λ z. EndsAt (last_cut z) client.found) (sym root.lineage) (subst (EndsAt 0) (sym root.found) refl)
        | inr later ↦ (
            let parent : Facts plan world later.parent = facts plan certified world kept later.parent later.parent_cut in
            let records : List Redo = records_of plan world client later.parent in
            let fall : VolumeLinksFall records = λ r i. prev_below (log_of world later.parent) parent.chain r (records_within plan certified world kept v later parent r i) in
            let ends : EndsAt (cut_of records) (log_found records) = way_ends records fall (cut_of records) (cut_greatest records fall).is_one (log_found records) (log_led records fall) in
            subst (λ z. EndsAt (last_cut z) client.found) (sym later.lineage) (subst (EndsAt (cut_of records)) (sym later.found) ends))
      ]

  module _ (born : is_born client.stage ≡ true) (cut : HasCut world v) (installed : has_installed plan client ≡ true) where
    -- what is counted of a group reaches each record of it that was found
    counted_reaches : (group : ℕ) → group < length client.groups → (r : Redo) → IsIn r client.found → r.group ≡ group → (count : Count) → IsIn count (counts_of client.groups group) → r.lsn ≤ count.reached
    counted_reaches group there r i g count j =
        let (a, l, made) = (kept.clients v).counts group there count j in
        (acks_reach plan certified events).reach group (label v a) count.sender count.reached made r i g

    -- the write expression of a group holds in no empty set
    write_filled : (group : ℕ) → group < length client.groups → IsFilled (place_configuration plan group (place_of client.groups group)).write
    write_filled group there =
        let place : IsPlace plan world group (place_of client.groups group) = (((kept.clients v).born born).places group there).0 in
        let within : length client.groups ≤ plan.groups = ((kept.clients v).born born).within in
        let line : IsLine plan group (path plan world group) (epoch_now plan world group) = (is_sound plan certified world kept).line group (omega arith) in
        let at : (place_of client.groups group).configuration < plan.configurations group = subst (λ c. c < plan.configurations group) (sym place.configuration) (line.there (place_of client.groups group).epoch place.positive place.there) in
        filled (place_configuration plan group (place_of client.groups group)).read (place_configuration plan group (place_of client.groups group)).write
        (certified.quorums group (place_of client.groups group).configuration (omega arith) at).valid_read
        (certified.quorums group (place_of client.groups group).configuration (omega arith) at).meets

    -- so the group's point, once it is raised, covers the record
    covered : (group : ℕ) → group < length client.groups → (r : Redo) → IsIn r client.found → r.group ≡ group → r.lsn ≤ group_point_of (raised plan client.groups) group
    covered group there r i g =
        let write : Formula = (place_configuration plan group (place_of client.groups group)).write in
        let counts : List Count = counts_of client.groups group in
        let all : sat write (counted_by counts) ≡ true = every_below-all (length client.groups) (λ k. sat (place_configuration plan k (place_of client.groups k)).write (counted_by (counts_of client.groups k))) installed group there in
        let written : IsWrittenTo write counts r.lsn = sat_more write (counted_by counts) (reaching counts r.lsn)
        (λ x h. (let (count, j, e, z) = reaching-some counts 0 x h in reaching-from counts r.lsn x count j e (counted_reaches group there r i g count j))) all in
        let low : r.lsn ≤ best write counts counts = (best-greatest write (write_filled group there) counts).at_least_each r.lsn written in
        let is : group_point_of (raised plan client.groups) group ≡ max (group_point_of client.groups group) (best write counts counts) = ap (λ z. z.group_point) (group_of-raised plan client.groups group there) in
        omega arith

    at_cut : is_open client.stage ≡ false → IsAtItsCut (record client { stage = Writing; groups = raised plan client.groups })
    at_cut closed =
        let points : ℕ → ℕ = group_point_of (raised plan client.groups) in
        let same : client.log ≡ client.found = (run_tidy plan events v).log_found closed in
        let chain : IsChain client.found = found_chain plan certified world kept v cut in
        let complete : complete_of points client.found ≡ last_lsn client.found = all_complete points client.found (grow_chain client.found chain) (complete_greatest points client.found (grow_chain client.found chain))
        (λ r i. covered r.group (((kept.clients v).cut cut).found_there r i) r i refl) in
        ap (λ z. consistency_point_below (complete_of points z) z) same ∙ ap (λ n. consistency_point_below n client.found) complete ∙ durable_at (last_cut client.lineage) client.found (found_ends cut)

  client_is : (a b : ClientStep) → ◌≡◌ {A = ClientAnswer} (Ok a) (Ok b) → a ≡ b
  client_is a b h = cc

  opened_at_cut : (s : ClientStep) → opened plan client ≡ Ok s → IsAtItsCut s.client
  opened_at_cut s h =
      let (z, h0) = refuse_if-ok (not (is_born client.stage)) NoActor _ s h in
      let (a, h1) = refuse_if-ok (is_open client.stage) AlreadyDone _ s h0 in
      let (b, h2) = refuse_if-ok (not (has_cut client.stage && has_installed plan client)) NotReady _ s h1 in
      let both : (has_cut client.stage ≡ true) × (has_installed plan client ≡ true) = and_parts _ _ (not-false _ b) in
      subst (λ z. IsAtItsCut z.client) (client_is _ s h2) (at_cut (not-false _ z) both.0 both.1 a)

  step_is : (a b : Step) → ◌≡◌ {A = Result Step Rattle.volume_model.specs.declared.fault.Fault.Fault} (Ok a) (Ok b) → a ≡ b
  step_is a b h = cc

  by_answer : (answer : ClientAnswer) → ((s : ClientStep) → answer ≡ Ok s → IsAtItsCut s.client) → (moved : Step) → of_client world v answer ≡ Ok moved → IsAtItsCut (moved.world.clients v)
  by_answer (Err number) good moved h = cc
  by_answer (Ok s) good moved h = subst (λ z. IsAtItsCut (z.world.clients v)) (step_is _ moved h) (subst IsAtItsCut (sym (put-same world.clients v s.client)) (good s refl))

  opens : (moved : Step) → step plan world (Open v) ≡ Ok moved → IsAtItsCut (moved.world.clients v)
  opens moved h = by_answer (opened plan client) opened_at_cut moved h

pub opens_at_its_cut : OpensAtItsCut
opens_at_its_cut plan certified events volume moved h = opens plan certified events volume moved h
