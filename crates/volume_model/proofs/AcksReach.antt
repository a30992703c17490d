-- An acknowledgement says at least the number of each record of its group that the writer found
use Rattle.std.proofs.Common.{◌≡◌, ℕ, zero, suc, ◌<◌, ◌≤◌, Bool, true, false, not, ◌&&◌, ◌||◌, nat_lt, eqb, ◌⊎◌, List, [], ◌∷◌, Result, Ok, Err, refl, sym, ap, ◌∙◌, subst, inl, inr, arith, le_refl}
use Rattle.std.proofs.lemmas.Bool.{cases_Bool, and_parts, and_from, or_left, or_right, eqb-true, eq-eqb, ltb-true}
use Rattle.volume_model.specs.Common.{IsIn, put_at, Redo, grounded, scl, last_lsn, last_of_group, last_epoch, Plan, is_named, IsCertified, Label, Ack, refuse_if, NodeStep, NodeAnswer, ClientStep, ClientAnswer, World, Event, AuthorityStep, of_authority, of_client, of_node, after_step, after, run, opening, assigned, advanced, refreshed, grown, if_there, groups_joined, Assign, Advance, Refresh, Grow, Issue, Take, Cut, Open, Resend, Read, Deliver, Hydrate, Restart, Offer, StaysFound}
use Rattle.volume_model.proofs.Basics.{any_from, IsIn-added}
use Rattle.volume_model.proofs.Logs.{IsChain, at_most_last}
use Rattle.volume_model.proofs.Greatest.{greatest_where-above}
use Rattle.volume_model.proofs.Grounded.{greatest_grounded-is}
use Rattle.volume_model.proofs.Invariant.{Held, found_of, HasCut, IsMade, IsCopy}
use Rattle.volume_model.proofs.Kept.{IsCutClient, IsAck, IsKept}
use Rattle.volume_model.proofs.Renewed.{IsReady, IsKeptWorld, renewed_kept, renewed_ready}
use Rattle.volume_model.proofs.NodeSteps.{put_at-same, NodeSays, IsGoodStep, delivered_good, hydrated_good, offered_good}
use Rattle.volume_model.proofs.ClientSteps.{ClientSays, IsGoodMove, issued_good, take_good, cut_good, opened_good, resent_good, asked_good}
use Rattle.volume_model.proofs.Run.{event_kept, opening_kept}
use Rattle.volume_model.proofs.Sound.{facts, cut_client}
use Rattle.volume_model.proofs.Lasting.{IsChain-rest}
use Rattle.volume_model.proofs.Finds.{event_keeps}
use Rattle.volume_model.specs.declared.fault.Fault.{Fault}
use Rattle.volume_model.specs.declared.fault.Fault.TheVariants.{NoActor}
use Rattle.std.proofs.lemmas.Grind.{common_steps}

-- ---- a segment that has all records of a chain reaches each of them

-- the last number of a group: 0, or that of a record
last_of_group-is : (group : ℕ) (log : List Redo) → (last_of_group group log ≡ 0) ⊎ (t : Redo) × IsIn t log × (t.group ≡ group) × (t.lsn ≡ last_of_group group log)
last_of_group-is group [] = inl refl
last_of_group-is group (s ∷ older) = grind (arith, common_steps, cases_Bool, eqb-true, (last_of_group-is group older))

module _ (group : ℕ) (records : List Redo) where
  -- one step of the walk finds a record
  walk : (steps : ℕ) (r : Redo) → IsIn r records → (eqb r.prev_group 0 || grounded steps records r.prev_group) ≡ true → grounded (suc steps) records r.lsn ≡ true
  walk steps r i h = any_from (λ s. eqb s.lsn r.lsn && (eqb s.prev_group 0 || grounded steps records s.prev_group)) records r i (and_from _ _ (eq-eqb r.lsn r.lsn refl) h)

  grounded_chain : (found : List Redo) → IsChain found → ((r : Redo) → IsIn r found → r.group ≡ group → IsIn r records) → (r : Redo) → IsIn r found → r.group ≡ group → (steps : ℕ) → r.lsn ≤ steps → grounded steps records r.lsn ≡ true
  grounded_chain [] c all r i g steps l = absurd i
  grounded_chain (s ∷ older) c all r (inr i) g steps l = grounded_chain older c.1 (λ t j. all t (inr j)) r i g steps l
  grounded_chain (s ∷ older) c all r (inl p) g zero l = grind (arith, common_steps)
  grounded_chain (s ∷ older) c all r (inl p) g (suc steps) l =
      let k : last_lsn older < s.lsn = c.0.above in
      let e : r.lsn ≡ s.lsn = ap (λ z. z.lsn) p in
      let same : s.group ≡ group = ap (λ z. z.group) (sym p) ∙ g in
      let link : r.prev_group ≡ last_of_group group older = ap (λ z. z.prev_group) p ∙ c.0.group_link ∙ ap (λ z. last_of_group z older) same in
      walk steps r (all r (inl p) g) (elim (last_of_group-is group older) [
        | inl z ↦ or_left _ _ (eq-eqb r.prev_group 0 (link ∙ z))
        | inr h ↦ (
            let below : h.0.lsn ≤ last_lsn older = at_most_last older c.1 h.0 h.1 in
            let ih : grounded steps records h.0.lsn ≡ true = grounded_chain older c.1 (λ t j. all t (inr j)) h.0 h.1 h.2 steps (omega arith) in
            or_right _ _ (subst (λ n. grounded steps records n ≡ true) (h.3 ∙ sym link) ih))
      ])

  -- so its complete point is at least the number of each
  reaches_chain : (found : List Redo) → IsChain found → ((r : Redo) → IsIn r found → r.group ≡ group → IsIn r records) → (r : Redo) → IsIn r found → r.group ≡ group → r.lsn ≤ scl records
  reaches_chain found c all r i g = grind (arith, common_steps, greatest_grounded-is, greatest_where-above, grounded_chain, le_refl)

-- ---- who says an acknowledgement

-- a node of this world says it, of its own
record IsSaid (plan : Plan) (world : World) (group : ℕ) (l : Label) (x s : ℕ) : Type 0 where
  there : group < plan.groups
  whole : (world.nodes group x).whole ≡ true
  epoch : last_epoch (world.nodes group x).contents.lineage ≡ l.volume
  complete : s ≡ scl (world.nodes group x).contents.records

module _ (plan : Plan) (certified : IsCertified plan) {held : Held} (world : World) (kept : IsKept plan held world) (ready : IsReady held world) where
  -- each acknowledgement was made before, or is said now
  abbrev AcksAreSaid : World → Type 0
  AcksAreSaid later = (group : ℕ) (l : Label) (x s : ℕ) → IsMade later (Ack group l x s) → IsMade world (Ack group l x s) ⊎ IsSaid plan later group l x s

  said_by_client : (v : ℕ) (answer : ClientAnswer) → ((step : ClientStep) → answer ≡ Ok step → IsGoodMove plan world v step) → AcksAreSaid (after_step world (of_client world v answer))
  said_by_client v (Err number) good group l x s i = inl i
  said_by_client v (Ok step) good group l x s i =
      elim (IsIn-added step.made world.messages (Ack group l x s) i) [
        | inl j ↦ absurd (let says : ClientSays v step.client (Ack group l x s) = (good step refl).says (Ack group l x s) j in says)
        | inr j ↦ inl j
      ]

  said_by_node : (to y : ℕ) → to < plan.groups → (answer : NodeAnswer) → ((step : NodeStep) → answer ≡ Ok step → IsGoodStep plan held world to y step) → AcksAreSaid (after_step world (of_node world to y answer))
  said_by_node to y there (Err number) good group l x s i = inl i
  said_by_node to y there (Ok step) good group l x s i =
      elim (IsIn-added step.made world.messages (Ack group l x s) i) [
        | inl j ↦ inr (
            let says : NodeSays held world to y step.node (Ack group l x s) = (good step refl).says (Ack group l x s) j in
            let same : put_at world.nodes to y step.node group x ≡ step.node = ap (λ g. put_at world.nodes to y step.node g x) says.0 ∙ ap (λ z. put_at world.nodes to y step.node to z) says.1 ∙ put_at-same world.nodes to y step.node in
            grind (arith, common_steps))
        | inr j ↦ inl j
      ]

  said_by_named : (to y : ℕ) (answer : NodeAnswer) → (to < plan.groups → (step : NodeStep) → answer ≡ Ok step → IsGoodStep plan held world to y step) → AcksAreSaid (after_step world (of_node world to y (if_there plan (groups_joined world.authority) to y answer)))
  said_by_named to y answer good = go (nat_lt to (groups_joined world.authority) && is_named plan to y) refl
    where
      go : (is : Bool) → (nat_lt to (groups_joined world.authority) && is_named plan to y) ≡ is → AcksAreSaid (after_step world (of_node world to y (refuse_if (not is) NoActor answer)))
      go false e = λ group l x s i. inl i
      go true e = (let there : to < plan.groups = ltb-true to plan.groups (and_parts (nat_lt to plan.groups) _ (and_parts (nat_lt to (groups_joined world.authority)) (is_named plan to y) e).1).0 in said_by_node to y there answer (good there))

  -- the authority acknowledges nothing
  abbrev SaysNoAck : AuthorityStep → Type 0
  SaysNoAck step = (group : ℕ) (l : Label) (x s : ℕ) → IsIn (Ack group l x s) step.made → ⊥

  said_by_authority : (answer : Result AuthorityStep Fault) → ((step : AuthorityStep) → answer ≡ Ok step → SaysNoAck step) → AcksAreSaid (after_step world (of_authority world answer))
  said_by_authority (Err number) good group l x s i = inl i
  said_by_authority (Ok step) good group l x s i =
      elim (IsIn-added step.made world.messages (Ack group l x s) i) [
        | inl j ↦ absurd (good step refl group l x s j)
        | inr j ↦ inl j
      ]

  assigned_silent : (step : AuthorityStep) → assigned plan world.authority ≡ Ok step → SaysNoAck step
  assigned_silent step h = grind (arith, common_steps)

  advanced_silent : (group c : ℕ) (step : AuthorityStep) → advanced plan world.authority group c ≡ Ok step → SaysNoAck step
  advanced_silent group c step h = grind (arith, common_steps)

  refreshed_silent : (volume : ℕ) (step : AuthorityStep) → refreshed plan world.authority volume ≡ Ok step → SaysNoAck step
  refreshed_silent volume step h = grind (arith, common_steps)

  grown_silent : (step : AuthorityStep) → grown plan world.authority ≡ Ok step → SaysNoAck step
  grown_silent step h = grind (arith, common_steps)

  said : (event : Event) → AcksAreSaid (after plan world event)
  said Assign = said_by_authority _ assigned_silent
  said (Advance group c) = said_by_authority _ (advanced_silent group c)
  said (Refresh volume) = said_by_authority _ (refreshed_silent volume)
  said Grow = said_by_authority _ grown_silent
  said (Issue v changes) = said_by_client v _ (issued_good plan certified world kept v changes)
  said (Take v number) = said_by_client v _ (take_good plan certified world kept v number)
  said (Cut v) = said_by_client v _ (cut_good plan certified world kept v)
  said (Open v) = said_by_client v _ (opened_good plan certified world kept v)
  said (Resend v lsn) = said_by_client v _ (resent_good plan certified world kept v lsn)
  said (Read v group block) = said_by_client v _ (asked_good plan certified world kept v group block)
  said (Deliver to y number) = said_by_named to y _ (λ there step h. delivered_good plan certified world kept ready to y there number step h)
  said (Hydrate to y) = said_by_named to y _ (λ there step h. hydrated_good plan certified world kept ready to y there step h)
  said (Restart to y) = grind (arith, common_steps)
  said (Offer to y lsn) = said_by_named to y _ (λ there step h. offered_good plan certified world kept ready to y there lsn step h)

-- each acknowledgement under a client's volume epoch reaches all of its group that the client found
pub record AcksReach (world : World) : Type 0 where
  pub reach : (group : ℕ) (l : Label) (x s : ℕ) → IsMade world (Ack group l x s) → (r : Redo) → IsIn r (found_of world l.volume) → r.group ≡ group → r.lsn ≤ s

-- what a client found is a chain
pub found_chain : (plan : Plan) → IsCertified plan → {held : Held} (world : World) → IsKept plan held world → (v : ℕ) → HasCut world v → IsChain (found_of world v)
found_chain plan certified world kept v cut = grind (arith, common_steps, IsCutClient, cut_client, IsChain-rest, found_of, IsChain, facts, (IsCutClient plan world v (world.clients v)), (cut_client plan certified world kept v cut), (found_of world v), (facts plan certified world kept v cut))

module _ (plan : Plan) (certified : IsCertified plan) where
  said_reaches : {held : Held} (world : World) → IsKept plan held world → (group : ℕ) (l : Label) (x s : ℕ) → IsSaid plan world group l x s → (r : Redo) → IsIn r (found_of world l.volume) → r.group ≡ group → r.lsn ≤ s
  said_reaches world kept group l x s said r i g =
      let copy : IsCopy world group (world.nodes group x).contents = ((kept.nodes group x said.there).whole said.whole).copy in
      let cut : HasCut world l.volume = subst (HasCut world) said.epoch copy.cut in
      let low : r.lsn ≤ scl (world.nodes group x).contents.records = reaches_chain group (world.nodes group x).contents.records (found_of world l.volume) (found_chain plan certified world kept l.volume cut)
      (λ t j h. copy.found t (subst (λ v. IsIn t (found_of world v)) (sym said.epoch) j) h) r i g in
      let e : s ≡ scl (world.nodes group x).contents.records = said.complete in
      omega arith

  event_reaches : (world : World) → IsKeptWorld plan world → AcksReach world → (event : Event) → AcksReach (after plan world event)
  event_reaches world known reaches event = record {
    reach = λ group l x s i r j g. elim (said plan certified world (renewed_kept plan world known.kept) (renewed_ready known.held world) event group l x s i) [
      | inl old ↦ (
          let ack : IsAck world group l x s = known.kept.messages _ old in
          let stays : StaysFound (world.clients l.volume) ((after plan world event).clients l.volume) = (event_keeps plan world event l.volume).stays ack.retains.cut in
          reaches.reach group l x s old r (subst (λ z. IsIn r z) stays.found_on j) g)
      | inr new ↦ said_reaches (after plan world event) (event_kept plan certified world known.kept event).kept group l x s new r j g
    ];
  }

  run_reaches : (events : List Event) (world : World) → IsKeptWorld plan world → AcksReach world → AcksReach (run plan world events)
  run_reaches [] world known reaches = reaches
  run_reaches (event ∷ events) world known reaches = run_reaches events (after plan world event) (event_kept plan certified world known.kept event) (event_reaches world known reaches event)

  pub acks_reach : (events : List Event) → AcksReach (run plan (opening plan) events)
  acks_reach events = run_reaches events (opening plan) (opening_kept plan certified) (record { reach = λ group l x s i. absurd i })
