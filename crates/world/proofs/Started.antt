-- A node that has begun to keep an install keeps a piece of it.
use Rattle.std.proofs.Common.{◌≡◌, ℕ, ◌<◌, ◌⊎◌, List, [], ◌∷◌, Some, Ok, sym, ap, ◌∙◌, inl, inr}
use Rattle.std.proofs.lemmas.Bool.{cases_Bool}
use Rattle.volume_model.specs.Common.{numbered, Pieces, piece_in, Plan, IsCertified, has_member, NodeStep, born_node, hydrated, World, Event, after, opening, run}
use Rattle.volume_model.specs.Node.{Node}
use Rattle.volume_model.proofs.Invariant.{HasCut, label}
use Rattle.volume_model.proofs.Kept.{IsInstall, IsInstallOfPiece}
use Rattle.volume_model.proofs.NodeSteps.{hydrated-ok}
use Rattle.volume_model.proofs.Renewed.{IsKeptWorld}
use Rattle.volume_model.proofs.Run.{event_kept, opening_kept}
use Rattle.world.proofs.Lost.{nodes_by}
use Rattle.world.proofs.Reactions.{HasPiece, deliver_leaves, none_is_not, offer_leaves, restart_leaves}

-- ---- every run

-- a node of the plan's groups that keeps an install keeps a piece, and no other node keeps one
abbrev pub HasStarted : Plan → ℕ → Node → Type 0
HasStarted plan group node = (pieces : Pieces) → node.install ≡ Some pieces → (group < plan.groups) × HasPiece pieces

module _ (plan : Plan) (certified : IsCertified plan) where
  module _ (world : World) (known : IsKeptWorld plan world) (old : (g y : ℕ) → HasStarted plan g (world.nodes g y)) where
    -- one step of a node
    one_step : (g x : ℕ) → g < plan.groups → (step : NodeStep) → ((pieces : Pieces) → step.node.install ≡ Some pieces → ((world.nodes g x).install ≡ Some pieces) ⊎ HasPiece pieces) → HasStarted plan g step.node
    one_step g x there step keeps pieces k = elim (keeps pieces k) [ inl before ↦ old g x pieces before | inr has ↦ (there, has) ]

    -- a hydration leaves what the node keeps of an install
    hydrated_install : (g x : ℕ) (step : NodeStep) → hydrated plan g x (world.nodes g x) ≡ Ok step → step.node.install ≡ (world.nodes g x).install
    hydrated_install g x step h =
        let (w, own, reads, is) = hydrated-ok plan g x (world.nodes g x) step h in
        ap (λ (s : NodeStep). s.node.install) is

    -- the same as a property of the node of each group and member
    abbrev Starts : ℕ → ℕ → Node → Type 0
    Starts g y node = HasStarted plan g node

    -- it stays so after each event
    started_on : (event : Event) (g y : ℕ) → HasStarted plan g ((after plan world event).nodes g y)
    started_on =
        nodes_by plan certified world known Starts old
        (λ g x there number step h. one_step g x there step (deliver_leaves plan g x (world.nodes g x) (numbered world.messages number) step h).install)
        (λ g x there named step h. one_step g x there step (λ pieces k. inl (sym (hydrated_install g x step h) ∙ k)))
        (λ g x there step h. one_step g x there step (restart_leaves plan g x (world.nodes g x) step h).0.install)
        (λ g x there lsn step h. one_step g x there step (offer_leaves plan g x (world.nodes g x) lsn step h).1.install)

  -- so after all events of a list
  pub run_started : (events : List Event) (world : World) → IsKeptWorld plan world → ((g y : ℕ) → HasStarted plan g (world.nodes g y)) → (g y : ℕ) → HasStarted plan g ((run plan world events).nodes g y)
  run_started [] world known old = old
  run_started (event ∷ events) world known old = run_started events (after plan world event) (event_kept plan certified world known.kept event) (started_on world known old event)

  -- a new node keeps nothing
  born_started : (g x : ℕ) → HasStarted plan g (born_node plan g x)
  born_started g x =
      elim (cases_Bool (has_member (plan.configuration g 0) x)) [
        | inl has ↦ rw has (λ pieces k. absurd (none_is_not pieces k))
        | inr lacks ↦ rw lacks (λ pieces k. absurd (none_is_not pieces k))
      ]

  -- in every run
  pub starts_known : (events : List Event) (g x : ℕ) → HasStarted plan g ((run plan (opening plan) events).nodes g x)
  starts_known events = run_started events (opening plan) (opening_kept plan certified) born_started

  -- a node keeps pieces of a client that has cut alone
  pub kept_from_cut : (world : World) → IsKeptWorld plan world → (g x : ℕ) → HasStarted plan g (world.nodes g x) → (pieces : Pieces) → (world.nodes g x).install ≡ Some pieces → HasCut world pieces.series
  kept_from_cut world known g x started pieces is =
      let (there, has) = started pieces is in
      let made : IsInstallOfPiece world g pieces.series (piece_in pieces has.0) has.0.contents = ((known.kept.nodes g x there).install pieces is).each has.0 has.1 in
      let install : IsInstall world g (label pieces.series made.0) (piece_in pieces has.0) has.0.contents = known.kept.messages _ made.1 in
      install.cut
