-- One holder's view changes.
use Rattle.std.proofs.Common.{◌≡◌, ◌≢◌, ◌⊎◌, ℕ, zero, suc, ◌<◌, List, [], ◌∷◌, ◌++◌, length, set, refl, sym, ap, ◌∙◌, subst, inl, inr, ⊎_elim, arith}
use mathlib.Core.Option.{some, some-ne-none, some-injective}
use mathlib.Core.Logic.{dite}
use native.Mathlib.Decide.{ℕ_discrete}
use lib.ListN.{get_elem?}
use Rattle.atomic_table.proofs.Lists.{at_set, at_snoc, set_here, set_else, at_longer, at_last}
use Rattle.cert_search.specs.Views.{At}

module _ {A : Type 0} where
  -- what stands in a list one longer stood there before, or is the new one
  pub at_push : (l : List A) (a b : A) (j : ℕ) → get_elem? (l ++ a ∷ []) j ≡ some b → (get_elem? l j ≡ some b) ⊎ ((j ≡ length l) × (a ≡ b))
  at_push [] a b zero e = inr (refl, some-injective a b e)
  at_push [] a b (suc j) e = absurd (some-ne-none b (sym e))
  at_push (x ∷ xs) a b zero e = inl e
  at_push (x ∷ xs) a b (suc j) e = ⊎_elim (λ t. inl t) (λ t. inr (ap suc t.0, t.1)) (at_push xs a b j e)

  pub in_range : (l : List A) (j : ℕ) (b : A) → get_elem? l j ≡ some b → j < length l
  in_range [] j b e = absurd (some-ne-none b (sym e))
  in_range (x ∷ xs) zero b e = omega arith
  in_range (x ∷ xs) (suc j) b e = let lt = in_range xs j b e in omega arith

-- the holder had the view v, and has the view w
module _ {V : Type 0} (views : List V) (id : ℕ) (v w : V) (here : get_elem? views id ≡ some v) where
  abbrev pub after : List V
  after = set views id w

  pub here_now : get_elem? after id ≡ some w
  here_now = set_here views id w (in_range views id v here)

  -- a fact of each holder
  pub each_after : (P : ℕ → V → Type 0) → ((p : ℕ) (u : V) → get_elem? views p ≡ some u → P p u) → P id w → (p : ℕ) (u : V) → get_elem? after p ≡ some u → P p u
  each_after P all mine p u e =
      ⊎_elim
      (λ (t : (p ≡ id) × (w ≡ u)). subst (λ (y : ℕ × V). P y.0 y.1) (λ i. (sym t.0 i, t.1 i)) mine)
      (λ (t : (p ≢ id) × (get_elem? views p ≡ some u)). all p u t.1)
      (at_set views id p w u e)

  module _ {A : Type 0} (f : V → List A) where
    pub same_list : (p i : ℕ) (y : A) → At f views p i y → p ≡ id → get_elem? (f v) i ≡ some y
    same_list p i y a is = ap (λ u. get_elem? (f u) i) (some-injective v a.0 (sym here ∙ ap (λ k. get_elem? views k) (sym is) ∙ a.1)) ∙ a.2

    -- the list grew by s
    pub at_still : (s : A) → f w ≡ f v ++ s ∷ [] → (p i : ℕ) (y : A) → At f views p i y → At f after p i y
    at_still s grew p i y a =
        dite (ℕ_discrete p id)
        (λ (same : p ≡ id). (w, ap (λ k. get_elem? after k) same ∙ here_now, ap (λ l. get_elem? l i) grew ∙ at_longer (f v) (s ∷ []) i y (same_list p i y a same)))
        (λ (apart : p ≢ id). (a.0, set_else views id p w apart ∙ a.1, a.2))

    pub at_new : (s : A) → f w ≡ f v ++ s ∷ [] → At f after id (length (f v)) s
    at_new s grew = (w, here_now, ap (λ l. get_elem? l (length (f v))) grew ∙ at_last (f v) s (length (f v)) refl)

    pub at_after : (s : A) → f w ≡ f v ++ s ∷ [] → (p i : ℕ) (y : A) → At f after p i y → At f views p i y ⊎ ((p ≡ id) × (i ≡ length (f v)) × (s ≡ y))
    at_after s grew p i y a =
        ⊎_elim
        (λ (t : (p ≡ id) × (w ≡ a.0)).
        ⊎_elim
        (λ (old : get_elem? (f v) i ≡ some y). inl (v, ap (λ k. get_elem? views k) t.0 ∙ here, old))
        (λ (new : (i ≡ length (f v)) × (s ≡ y)). inr (t.0, new.0, new.1))
        (at_push (f v) s y i (ap (λ l. get_elem? l i) (sym grew) ∙ ap (λ u. get_elem? (f u) i) t.1 ∙ a.2)))
        (λ (t : (p ≢ id) × (get_elem? views p ≡ some a.0)). inl (a.0, t.1, a.2))
        (at_set views id p w a.0 a.1)

    -- the list stayed
    pub at_same : f w ≡ f v → (p i : ℕ) (y : A) → At f after p i y → At f views p i y
    at_same kept p i y a =
        ⊎_elim
        (λ (t : (p ≡ id) × (w ≡ a.0)). (v, ap (λ k. get_elem? views k) t.0 ∙ here, ap (λ l. get_elem? l i) (sym kept) ∙ ap (λ u. get_elem? (f u) i) t.1 ∙ a.2))
        (λ (t : (p ≢ id) × (get_elem? views p ≡ some a.0)). (a.0, t.1, a.2))
        (at_set views id p w a.0 a.1)

    pub at_kept : f w ≡ f v → (p i : ℕ) (y : A) → At f views p i y → At f after p i y
    at_kept kept p i y a =
        dite (ℕ_discrete p id)
        (λ (same : p ≡ id). (w, ap (λ k. get_elem? after k) same ∙ here_now, ap (λ l. get_elem? l i) kept ∙ same_list p i y a same))
        (λ (apart : p ≢ id). (a.0, set_else views id p w apart ∙ a.1, a.2))

-- a holder comes, whose list is empty
module _ {V A : Type 0} (f : V → List A) (views : List V) (w : V) (none : f w ≡ []) where
  pub at_more : (p i : ℕ) (y : A) → At f (views ++ w ∷ []) p i y → At f views p i y
  at_more p i y a = ⊎_elim (λ old. (a.0, old, a.2)) (λ (is : w ≡ a.0). absurd (some-ne-none y (sym (ap (λ l. get_elem? l i) (sym none) ∙ ap (λ u. get_elem? (f u) i) is ∙ a.2)))) (at_snoc views w a.0 p a.1)

  pub at_fewer : (p i : ℕ) (y : A) → At f views p i y → At f (views ++ w ∷ []) p i y
  at_fewer p i y a = (a.0, at_longer views (w ∷ []) p a.0 a.1, a.2)
