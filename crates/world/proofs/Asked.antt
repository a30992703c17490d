-- In every run a node that has a place and isn't whole has asked for copies, and each member of a group's root is whole.
use Rattle.std.proofs.Common.{◌≡◌, ℕ, ◌≤◌, Bool, true, false, not, ◌&&◌, nat_lt, ◌⊎◌, List, [], ◌∷◌, Result, Ok, Err, refl, sym, ap, ◌∙◌, subst, inl, inr, arith}
use Rattle.std.proofs.lemmas.Bool.{both_ways, true≢false}
use Rattle.volume_model.specs.Common.{IsIn, added, numbered, Plan, IsCertified, has_member, is_named, CopyAsk, refuse_if, NodeStep, NodeAnswer, born_node, ClientAnswer, AuthorityStep, World, Event, after, after_step, groups_joined, if_there, of_authority, of_client, of_node, opening, run, Issue, Take, Cut, Open, Resend, Read, Deliver, Hydrate, Restart, Offer}
use Rattle.volume_model.specs.Node.{Node}
use Rattle.volume_model.proofs.Basics.{put_at-all}
use Rattle.volume_model.proofs.Invariant.{IsMade}
use Rattle.volume_model.proofs.NodeSteps.{hydrated-ok}
use Rattle.volume_model.proofs.Renewed.{IsKeptWorld}
use Rattle.volume_model.proofs.Run.{event_kept, opening_kept}
use Rattle.volume_model.specs.declared.fault.Fault.{Fault}
use Rattle.volume_model.specs.declared.fault.Fault.TheVariants.{NoActor}
use Rattle.world.proofs.Lost.{nodes_on}
use Rattle.world.proofs.Reactions.{Leaves, deliver_leaves, offer_leaves, restart_leaves}
use Rattle.world.proofs.Readable.{IsIn-kept, IsIn-new}

-- each node that has a place and isn't whole has asked for copies at its membership epoch
abbrev pub HasAsked : World → Type 0
HasAsked world = (g x : ℕ) → (world.nodes g x).whole ≡ false → 1 ≤ (world.nodes g x).place.epoch → IsMade world (CopyAsk g (world.nodes g x).place.epoch)

-- each member of a group's root is whole
abbrev pub HasWholeRoots : Plan → World → Type 0
HasWholeRoots plan world = (g x : ℕ) → has_member (plan.configuration g 0) x ≡ true → (world.nodes g x).whole ≡ true

-- ---- one step of a node that isn't whole

-- the step leaves the node's place, or asks for copies at the new one
leaves_asked : (plan : Plan) (group x : ℕ) (node : Node) (step : NodeStep) → Leaves plan group x node step → step.node.whole ≡ false
    → (node.whole ≡ false) × ((step.node.place ≡ node.place) ⊎ IsIn (CopyAsk group step.node.place.epoch) step.made)
leaves_asked plan group x node step leaves un = (sym leaves.whole ∙ un, elim leaves.place [ inl same ↦ inl same | inr asks ↦ inr (asks un) ])

-- ---- one event

module _ (plan : Plan) (certified : IsCertified plan) (world : World) (known : IsKeptWorld plan world) where
  -- a step that leaves the node whole, or was taken by one that wasn't and leaves its place or asks for copies
  abbrev Fits : ℕ → ℕ → NodeStep → Type 0
  Fits g x step = step.node.whole ≡ false
      → ((world.nodes g x).whole ≡ false) × ((step.node.place ≡ (world.nodes g x).place) ⊎ IsIn (CopyAsk g step.node.place.epoch) step.made)

  -- a step of the authority, a client or a node keeps that who isn't whole has asked
  by_authority : (answer : Result AuthorityStep Fault) → HasAsked world → HasAsked (after_step world (of_authority world answer))
  by_authority (Err fault) old = old
  by_authority (Ok s) old = λ g x un one. IsIn-kept s.made world.messages _ (old g x un one)

  by_client : (v : ℕ) (answer : ClientAnswer) → HasAsked world → HasAsked (after_step world (of_client world v answer))
  by_client v (Err fault) old = old
  by_client v (Ok s) old = λ g x un one. IsIn-kept s.made world.messages _ (old g x un one)

  by_node : (group x : ℕ) (answer : NodeAnswer) → ((step : NodeStep) → answer ≡ Ok step → Fits group x step) → HasAsked world
      → HasAsked (after_step world (of_node world group x (if_there plan (groups_joined world.authority) group x answer)))
  by_node group x answer fits old = go (nat_lt group (groups_joined world.authority) && is_named plan group x) answer fits
    where
      go : (is : Bool) (answer : NodeAnswer) → ((step : NodeStep) → answer ≡ Ok step → Fits group x step) → HasAsked (after_step world (of_node world group x (refuse_if (not is) NoActor answer)))
      go false answer fits = old
      go true (Err fault) fits = old
      go true (Ok step) fits =
          put_at-all (λ k y (n : Node). n.whole ≡ false → 1 ≤ n.place.epoch → IsIn (CopyAsk k n.place.epoch) (added step.made world.messages)) world.nodes group x step.node
          (λ un one. (
          let fit = fits step refl un in
          elim (fit.1) [
            | inl same ↦ (let e : step.node.place.epoch ≡ (world.nodes group x).place.epoch = ap (λ p. p.epoch) same in
                subst (λ k. IsIn (CopyAsk group k) (added step.made world.messages)) (sym e) (IsIn-kept step.made world.messages _ (old group x fit.0 (omega arith))))
            | inr asks ↦ IsIn-new step.made world.messages _ asks
          ]))
          (λ k y un one. IsIn-kept step.made world.messages _ (old k y un one))

  -- each event keeps that who isn't whole has asked
  pub asked_on : HasAsked world → (event : Event) → HasAsked (after plan world event)
  asked_on old (Issue v changes) = by_client v _ old
  asked_on old (Take v number) = by_client v _ old
  asked_on old (Cut v) = by_client v _ old
  asked_on old (Open v) = by_client v _ old
  asked_on old (Resend v lsn) = by_client v _ old
  asked_on old (Read v group block) = by_client v _ old
  asked_on old (Deliver group x number) = by_node group x _ (λ step h. leaves_asked plan group x (world.nodes group x) step (deliver_leaves plan group x (world.nodes group x) (numbered world.messages number) step h)) old
  asked_on old (Hydrate group x) = by_node group x _ (λ step h un. (
      let (w, own, reads, is) = hydrated-ok plan group x (world.nodes group x) step h in
      absurd (both_ways step.node.whole un (ap (λ (s : NodeStep). s.node.whole) is)))) old
  asked_on old (Restart group x) = by_node group x _ (λ step h. leaves_asked plan group x (world.nodes group x) step (restart_leaves plan group x (world.nodes group x) step h).0) old
  asked_on old (Offer group x lsn) = by_node group x _ (λ step h un. (
      let (whole, leaves, same) = offer_leaves plan group x (world.nodes group x) lsn step h in
      absurd (both_ways step.node.whole un (leaves.whole ∙ whole)))) old
  asked_on old m = by_authority _ old

  -- each event keeps that the members of the root are whole
  pub roots_on : HasWholeRoots plan world → (event : Event) → HasWholeRoots plan (after plan world event)
  roots_on old event =
      nodes_on plan certified world known (λ g x node. has_member (plan.configuration g 0) x ≡ true → node.whole ≡ true) old
      (λ g x node before same later m. same ∙ before m)
      (λ g x there named step h m. (let (w, own, reads, is) = hydrated-ok plan g x (world.nodes g x) step h in ap (λ (s : NodeStep). s.node.whole) is))
      event

-- ---- each run

module _ (plan : Plan) (certified : IsCertified plan) where
  -- a list of events keeps both
  pub run_asked : (events : List Event) (world : World) → IsKeptWorld plan world → HasAsked world → HasWholeRoots plan world
      → HasAsked (run plan world events) × HasWholeRoots plan (run plan world events)
  run_asked [] world known asked roots = (asked, roots)
  run_asked (event ∷ events) world known asked roots =
      run_asked events (after plan world event) (event_kept plan certified world known.kept event) (asked_on plan certified world known asked event) (roots_on plan certified world known roots event)

  -- both hold of the opening world
  born_asked : HasAsked (opening plan)
  born_asked g x = go (has_member (plan.configuration g 0) x) refl
    where
      go : (b : Bool) → has_member (plan.configuration g 0) x ≡ b → (born_node plan g x).whole ≡ false → 1 ≤ (born_node plan g x).place.epoch
          → IsMade (opening plan) (CopyAsk g (born_node plan g x).place.epoch)
      go true e = rw e (λ un one. absurd (true≢false un))
      go false e = rw e (λ un one. absurd (omega arith))

  born_roots : HasWholeRoots plan (opening plan)
  born_roots g x m = rw m refl

  -- in every run a node that has a place and isn't whole has asked for copies
  pub asked_known : (events : List Event) → HasAsked (run plan (opening plan) events)
  asked_known events = (run_asked events (opening plan) (opening_kept plan certified) born_asked born_roots).0

  -- in every run each member of a group's root is whole
  pub roots_known : (events : List Event) → HasWholeRoots plan (run plan (opening plan) events)
  roots_known events = (run_asked events (opening plan) (opening_kept plan certified) born_asked born_roots).1
