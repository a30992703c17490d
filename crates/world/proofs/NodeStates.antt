-- The nodes that a run leaves are those in the slots.
use Rattle.std.proofs.Common.{◌≡◌, ℕ, zero, suc, ◌+◌, ◌/◌, ◌%◌, ◌<◌, Bool, true, false, if◌then◌else◌, List, [], ◌∷◌, ◌++◌, Option, Some, None, length, refl, sym, ap, ◌∙◌, subst, append_assoc, append-nil, arith, slice_get}
use Rattle.volume_model.specs.Common.{each_below}
use Rattle.segment_core.specs.declared.segment.Segment.{Segment}
use Rattle.segment_core.specs.Segment.{node_of}
use Rattle.world.specs.declared.actors.Actors.{Actors}
use Rattle.world.specs.declared.node_states.NodeState.{NodeState}
use Rattle.world.specs.Actors.{plan_of, world_of, AreActors}
use Rattle.world.specs.Homes.{IsPlace}
use Rattle.world.specs.NodeStates.{names_slot, node_state, nodes_in, state_in_slot, states_from}
use Rattle.world.specs.Slots.{slot_of}
use Rattle.world.proofs.Steps.{node_in_slot}

-- the test and the state of a slot are those of what stands there
abbrev FitsSlot : (ℕ → Bool) → (ℕ → NodeState) → ℕ → Option Segment → Type 0
FitsSlot test f slot None = test slot ≡ false
FitsSlot test f slot (Some s) = (test slot ≡ true) × (f slot ≡ node_state (slot / 64) (slot % 64) (node_of s))

module _ (test : ℕ → Bool) (f : ℕ → NodeState) where
  -- the list of the slots before this one, with what its test says, and of those behind it
  abbrev with_slot : ℕ → List (Option Segment) → Bool → List NodeState
  with_slot slot rest b = (each_below slot test f ++ (if b then f slot ∷ [] else [])) ++ states_from (suc slot) rest

  one_more : (slot : ℕ) (o : Option Segment) (rest : List (Option Segment)) → FitsSlot test f slot o → each_below slot test f ++ states_from slot (o ∷ rest) ≡ each_below (suc slot) test f ++ states_from (suc slot) rest
  one_more slot None rest fits = sym (ap (with_slot slot rest) fits ∙ append_assoc (each_below slot test f) [] (states_from (suc slot) rest))
  one_more slot (Some s) rest fits =
      sym (ap (with_slot slot rest) fits.0 ∙ append_assoc (each_below slot test f) (f slot ∷ []) (states_from (suc slot) rest)
      ∙ ap (λ (x : NodeState). each_below slot test f ++ x ∷ states_from (suc slot) rest) fits.1)

  listed_from : (slot : ℕ) (slots : List (Option Segment)) → ((k : ℕ) (o : Option Segment) → slice_get slots k ≡ Some o → FitsSlot test f (slot + k) o) → each_below slot test f ++ states_from slot slots ≡ each_below (slot + length slots) test f
  listed_from slot [] fits = append-nil (each_below slot test f) ∙ ap (λ (n : ℕ). each_below n test f) (let e : slot ≡ slot + 0 = omega arith in e)
  listed_from slot (o ∷ rest) fits =
      let here : slot + 0 ≡ slot = omega arith in
      let last : suc slot + length rest ≡ slot + length (o ∷ rest) = omega arith in
      one_more slot o rest (subst (λ (n : ℕ). FitsSlot test f n o) here (fits zero o refl))
      ∙ listed_from (suc slot) rest (λ k p e. let next : slot + suc k ≡ suc slot + k = omega arith in subst (λ (n : ℕ). FitsSlot test f n p) next (fits (suc k) p e))
      ∙ ap (λ (n : ℕ). each_below n test f) last

module _ (a : Actors) (are : AreActors a) where
  fits : (k : ℕ) (o : Option Segment) → slice_get a.nodes.items k ≡ Some o → IsPlace (plan_of a) (k / 64) (k % 64) o → FitsSlot (names_slot (plan_of a)) (state_in_slot (world_of a)) k o
  fits k None e place = place
  fits k (Some s) e place =
      let low : k % 64 < 64 = omega arith in
      let slot : slot_of (k / 64) (k % 64) ≡ k = omega arith in
      (place.0, ap (node_state (k / 64) (k % 64)) (node_in_slot (plan_of a) a.nodes.items (k / 64) (k % 64) low s (ap (slice_get a.nodes.items) slot ∙ e)))

  pub nodes_listed : states_from 0 a.nodes.items ≡ nodes_in (plan_of a) (world_of a)
  nodes_listed =
      let test = names_slot (plan_of a) in
      let f = state_in_slot (world_of a) in
      let long : 0 + length a.nodes.items ≡ length a.nodes.items = omega arith in
      listed_from test f 0 a.nodes.items (λ k o e. let same : k ≡ 0 + k = omega arith in subst (λ (n : ℕ). FitsSlot test f n o) same (fits k o e (are.homes.place k o e)))
      ∙ ap (λ (n : ℕ). each_below n test f) (long ∙ are.homes.long)
