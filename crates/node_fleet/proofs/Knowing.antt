-- Views that know how many seats there are.
use Rattle.std.proofs.Common.{◌≡◌, ◌≢◌, ℕ, zero, suc, ◌<◌, ◌≤◌, List, [], ◌∷◌, ◌++◌, set, refl, sym, ap, ◌∙◌, subst, ⊎_elim, arith}
use mathlib.Core.Option.{some, some-ne-none, some-injective}
use lib.ListN.{get_elem?}
use Rattle.atomic_table.proofs.Lists.{at_set, at_snoc}
use Rattle.board.specs.Shares.{View, share_of, shares}
use Rattle.board.proofs.Shares.{shares_set}
use Rattle.node_fleet.specs.Mail.{Knows, KnowAll, views_in}

module _ {A : Type 0} where
  pub in_at : (views : List (Knows A)) (id : ℕ) (v : Knows A) → get_elem? views id ≡ some v → get_elem? (views_in views) id ≡ some v.1
  in_at [] id v e = absurd (some-ne-none v (sym e))
  in_at (x ∷ xs) zero v e = ap (λ (y : Knows A). some y.1) (some-injective x v e)
  in_at (x ∷ xs) (suc id) v e = in_at xs id v e

  pub in_set : (views : List (Knows A)) (id : ℕ) (w : Knows A) → views_in (set views id w) ≡ set (views_in views) id w.1
  in_set [] id w = refl
  in_set (x ∷ xs) zero w = refl
  in_set (x ∷ xs) (suc id) w = ap (λ l. x.1 ∷ l) (in_set xs id w)

  pub in_push : (views : List (Knows A)) (w : Knows A) → views_in (views ++ w ∷ []) ≡ views_in views ++ w.1 ∷ []
  in_push [] w = refl
  in_push (x ∷ xs) w = ap (λ l. x.1 ∷ l) (in_push xs w)

  -- one view becomes another, and one more comes
  pub in_both : (views : List (Knows A)) (id : ℕ) (w new : Knows A) → views_in (set views id w ++ new ∷ []) ≡ set (views_in views) id w.1 ++ new.1 ∷ []
  in_both views id w new = in_push (set views id w) new ∙ ap (λ l. l ++ new.1 ∷ []) (in_set views id w)

  pub know_set : (n : ℕ) (views : List (Knows A)) (id : ℕ) (w : Knows A) → KnowAll n views → (0 < share_of w.1 → w.0 ≡ n) → KnowAll n (set views id w)
  know_set n views id w all new p u e some_seat =
      ⊎_elim
      (λ (t : (p ≡ id) × (w ≡ u)). subst (λ (y : Knows A). 0 < share_of y.1 → y.0 ≡ n) t.1 new some_seat)
      (λ (t : (p ≢ id) × (get_elem? views p ≡ some u)). all p u t.1 some_seat)
      (at_set views id p w u e)

  pub know_push : (n : ℕ) (views : List (Knows A)) (w : Knows A) → KnowAll n views → (0 < share_of w.1 → w.0 ≡ n) → KnowAll n (views ++ w ∷ [])
  know_push n views w all new p u e some_seat = ⊎_elim (λ old. all p u old some_seat) (λ (is : w ≡ u). subst (λ (y : Knows A). 0 < share_of y.1 → y.0 ≡ n) is new some_seat) (at_snoc views w u p e)

  share_at : (views : List (View A)) (p : ℕ) (u : View A) → get_elem? views p ≡ some u → share_of u ≤ shares views
  share_at [] p u e = absurd (some-ne-none u (sym e))
  share_at (x ∷ xs) zero u e = let same : share_of x ≡ share_of u = ap share_of (some-injective x u e) in omega arith
  share_at (x ∷ xs) (suc p) u e = let rest = share_at xs p u e in omega arith

  -- beside one view that stands for all seats no other stands for any
  pub alone_for_all : (views : List (Knows A)) (id : ℕ) (v w : Knows A) → get_elem? views id ≡ some v → share_of v.1 ≡ shares (views_in views)
      → (n : ℕ) → (0 < share_of w.1 → w.0 ≡ n) → KnowAll n (set views id w)
  alone_for_all views id v w here all n new p u e some_seat =
      ⊎_elim
      (λ (t : (p ≡ id) × (w ≡ u)). subst (λ (y : Knows A). 0 < share_of y.1 → y.0 ≡ n) t.1 new some_seat)
      (λ (t : (p ≢ id) × (get_elem? views p ≡ some u)).
      let inner = views_in views in
      let rest = set inner id (0, []) in
      let left = shares_set inner id v.1 (0, []) (in_at views id v here) in
      let there : get_elem? rest p ≡ some u.1 = set_apart inner id p (0, []) t.0 ∙ in_at views p u t.1 in
      let within = share_at rest p u.1 there in
      absurd (omega (arith, left, all, within, some_seat)))
      (at_set views id p w u e)
    where
      set_apart : {B : Type 0} (l : List B) (i j : ℕ) (x : B) → j ≢ i → get_elem? (set l i x) j ≡ get_elem? l j
      set_apart [] i j x apart = refl
      set_apart (y ∷ l) zero zero x apart = absurd (apart refl)
      set_apart (y ∷ l) zero (suc j) x apart = refl
      set_apart (y ∷ l) (suc i) zero x apart = refl
      set_apart (y ∷ l) (suc i) (suc j) x apart = set_apart l i j x (λ e. apart (ap suc e))
