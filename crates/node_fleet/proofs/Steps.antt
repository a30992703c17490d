-- One holder makes one more step.
use Rattle.std.proofs.Common.{◌≡◌, ◌≢◌, ◌⊎◌, ℕ, zero, suc, ◌<◌, List, [], ◌∷◌, ◌++◌, length, set, refl, sym, ap, ◌∙◌, inl, inr, ⊎_elim, arith}
use mathlib.Core.Option.{some, some-ne-none, some-injective}
use mathlib.Core.Logic.{dite}
use native.Mathlib.Decide.{ℕ_discrete}
use lib.ListN.{get_elem?}
use Rattle.atomic_table.proofs.Lists.{at_set, at_snoc, set_here, set_else, at_longer, at_last}
use Rattle.node_fleet.specs.Views.{At}

module _ {A : Type 0} where
  -- what stands in a list one longer stood there before, or is the new one
  pub at_push : (l : List A) (a b : A) (j : ℕ) → get_elem? (l ++ a ∷ []) j ≡ some b → (get_elem? l j ≡ some b) ⊎ ((j ≡ length l) × (a ≡ b))
  at_push [] a b zero e = inr (refl, some-injective a b e)
  at_push [] a b (suc j) e = absurd (some-ne-none b (sym e))
  at_push (x ∷ xs) a b zero e = inl e
  at_push (x ∷ xs) a b (suc j) e = ⊎_elim (λ t. inl t) (λ t. inr (ap suc t.0, t.1)) (at_push xs a b j e)

  pub in_range : (l : List A) (j : ℕ) (b : A) → get_elem? l j ≡ some b → j < length l
  in_range [] j b e = absurd (some-ne-none b (sym e))
  in_range (x ∷ xs) zero b e = omega arith
  in_range (x ∷ xs) (suc j) b e = let lt = in_range xs j b e in omega arith

-- the holder had the steps v, and makes the step s
module _ {A : Type 0} (views : List (List A)) (id : ℕ) (v : List A) (s : A) (here : get_elem? views id ≡ some v) where
  abbrev pub after : List (List A)
  after = set views id (v ++ s ∷ [])

  pub here_now : get_elem? after id ≡ some (v ++ s ∷ [])
  here_now = set_here views id (v ++ s ∷ []) (in_range views id v here)

  pub at_new : At after id (length v) s
  at_new = (v ++ s ∷ [], here_now, at_last v s (length v) refl)

  pub same_steps : (p i : ℕ) (y : A) → At views p i y → p ≡ id → get_elem? v i ≡ some y
  same_steps p i y a is = ap (λ u. get_elem? u i) (some-injective v a.0 (sym here ∙ ap (λ k. get_elem? views k) (sym is) ∙ a.1)) ∙ a.2

  pub is_before : (i : ℕ) (y : A) → At views id i y → i < length v
  is_before i y a = in_range v i y (same_steps id i y a refl)

  pub at_still : (p i : ℕ) (y : A) → At views p i y → At after p i y
  at_still p i y a =
      dite (ℕ_discrete p id)
      (λ (same : p ≡ id). (v ++ s ∷ [], ap (λ k. get_elem? after k) same ∙ here_now, at_longer v (s ∷ []) i y (same_steps p i y a same)))
      (λ (apart : p ≢ id). (a.0, set_else views id p (v ++ s ∷ []) apart ∙ a.1, a.2))

  pub at_after : (p i : ℕ) (y : A) → At after p i y → At views p i y ⊎ ((p ≡ id) × (i ≡ length v) × (s ≡ y))
  at_after p i y a =
      ⊎_elim
      (λ (t : (p ≡ id) × ((v ++ s ∷ []) ≡ a.0)).
      ⊎_elim
      (λ (old : get_elem? v i ≡ some y). inl (v, ap (λ k. get_elem? views k) t.0 ∙ here, old))
      (λ (new : (i ≡ length v) × (s ≡ y)). inr (t.0, new.0, new.1))
      (at_push v s y i (ap (λ u. get_elem? u i) t.1 ∙ a.2)))
      (λ (t : (p ≢ id) × (get_elem? views p ≡ some a.0)). inl (a.0, t.1, a.2))
      (at_set views id p (v ++ s ∷ []) a.0 a.1)

module _ {A : Type 0} (views : List (List A)) where
  -- a holder that has made no step
  pub at_more : (p i : ℕ) (y : A) → At (views ++ [] ∷ []) p i y → At views p i y
  at_more p i y a = ⊎_elim (λ old. (a.0, old, a.2)) (λ (is : [] ≡ a.0). absurd (some-ne-none y (sym (ap (λ (l : List A). get_elem? l i) is ∙ a.2)))) (at_snoc views [] a.0 p a.1)

  pub at_fewer : (p i : ℕ) (y : A) → At views p i y → At (views ++ [] ∷ []) p i y
  at_fewer p i y a = (a.0, at_longer views ([] ∷ []) p a.0 a.1, a.2)
