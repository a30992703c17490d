-- Views that stand for seats: one makes a step, one is split, two are joined.
use Rattle.std.proofs.Common.{◌≡◌, ℕ, zero, suc, ◌+◌, ◌-◌, ◌<◌, ◌≤◌, List, [], ◌∷◌, ◌++◌, length, set, refl, sym, ap, ◌∙◌, subst, append_assoc, length-append, suc-add, zero-add, arith}
use Rattle.std.proofs.lemmas.List.{append-nil, nil_from_length}
use mathlib.Core.Option.{some, some-ne-none, some-injective}
use lib.ListN.{get_elem?}
use Rattle.board.specs.Shares.{View, share_of, shares, seats_in}
use Rattle.std.proofs.lemmas.Grind.{common_steps}

-- the second list has the elements of the first in another order: where each comes from, and where each goes
pub record Rearranged {A : Type 0} (xs ys : List A) : Type 0 where
  pub from : ℕ → ℕ
  pub to : ℕ → ℕ
  pub was : (p : ℕ) (a : A) → get_elem? ys p ≡ some a → get_elem? xs (from p) ≡ some a
  pub is : (p : ℕ) (a : A) → get_elem? xs p ≡ some a → get_elem? ys (to p) ≡ some a
  pub once : (p : ℕ) → to (from p) ≡ p

-- places behind one that stays
next : (ℕ → ℕ) → ℕ → ℕ
next f zero = zero
next f (suc p) = suc (f p)

-- the first two places change
turn : ℕ → ℕ
turn zero = 1
turn (suc zero) = 0
turn (suc (suc p)) = suc (suc p)

module _ {A : Type 0} where
  pub as_is : (xs : List A) → Rearranged xs xs
  as_is xs = record { from = λ p. p; to = λ p. p; was = λ p a e. e; is = λ p a e. e; once = λ p. refl }

  pub equal : (xs ys : List A) → xs ≡ ys → Rearranged xs ys
  equal xs ys e = subst (λ (l : List A). Rearranged xs l) e (as_is xs)

  pub then : (xs ys zs : List A) → Rearranged xs ys → Rearranged ys zs → Rearranged xs zs
  then xs ys zs r s = record {
    from = λ p. r.from (s.from p);
    to = λ p. s.to (r.to p);
    was = λ p a e. r.was (s.from p) a (s.was p a e);
    is = λ p a e. s.is (r.to p) a (r.is p a e);
    once = λ p. ap s.to (r.once (s.from p)) ∙ s.once p;
  }

  pub below : (x : A) (xs ys : List A) → Rearranged xs ys → Rearranged (x ∷ xs) (x ∷ ys)
  unfolding next
  below x xs ys r = record { from = next r.from; to = next r.to; was = was; is = is; once = once }
    where
      was : (p : ℕ) (a : A) → get_elem? (x ∷ ys) p ≡ some a → get_elem? (x ∷ xs) (next r.from p) ≡ some a
      was zero a e = e
      was (suc p) a e = r.was p a e

      is : (p : ℕ) (a : A) → get_elem? (x ∷ xs) p ≡ some a → get_elem? (x ∷ ys) (next r.to p) ≡ some a
      is zero a e = e
      is (suc p) a e = r.is p a e

      once : (p : ℕ) → next r.to (next r.from p) ≡ p
      once zero = refl
      once (suc p) = ap suc (r.once p)

  pub exchanged : (x y : A) (xs : List A) → Rearranged (x ∷ y ∷ xs) (y ∷ x ∷ xs)
  unfolding turn
  exchanged x y xs = record { from = turn; to = turn; was = was x y; is = was y x; once = once }
    where
      was : (x y : A) (p : ℕ) (a : A) → get_elem? (y ∷ x ∷ xs) p ≡ some a → get_elem? (x ∷ y ∷ xs) (turn p) ≡ some a
      was x y zero a e = e
      was x y (suc zero) a e = e
      was x y (suc (suc p)) a e = e

      once : (p : ℕ) → turn (turn p) ≡ p
      once zero = refl
      once (suc zero) = refl
      once (suc (suc p)) = refl

  pub behind : (xs ys zs : List A) → Rearranged ys zs → Rearranged (xs ++ ys) (xs ++ zs)
  behind [] ys zs r = r
  behind (x ∷ xs) ys zs r = below x (xs ++ ys) (xs ++ zs) (behind xs ys zs r)

  -- one element moves to the front
  one_up : (xs : List A) (y : A) (zs : List A) → Rearranged (xs ++ y ∷ zs) (y ∷ xs ++ zs)
  one_up [] y zs = as_is (y ∷ zs)
  one_up (x ∷ xs) y zs = then _ _ _ (below x (xs ++ y ∷ zs) (y ∷ xs ++ zs) (one_up xs y zs)) (exchanged x y (xs ++ zs))

  -- a list in the middle moves to the front
  pub moved_up : (xs ys zs : List A) → Rearranged (xs ++ (ys ++ zs)) (ys ++ (xs ++ zs))
  moved_up xs [] zs = as_is (xs ++ zs)
  moved_up xs (y ∷ ys) zs = then _ _ _ (one_up xs y (ys ++ zs)) (below y (xs ++ (ys ++ zs)) (ys ++ (xs ++ zs)) (moved_up xs ys zs))

  at_behind : (xs ys : List A) (k : ℕ) → get_elem? (xs ++ ys) (length xs + k) ≡ get_elem? ys k
  at_behind [] ys k = rw (zero-add k) refl
  at_behind (x ∷ xs) ys k = rw (suc-add (length xs) k) (at_behind xs ys k)

  set_behind : (xs ys : List A) (k : ℕ) (a : A) → set (xs ++ ys) (length xs + k) a ≡ xs ++ set ys k a
  set_behind [] ys k a = rw (zero-add k) refl
  set_behind (x ∷ xs) ys k a = rw (suc-add (length xs) k) (ap (λ l. x ∷ l) (set_behind xs ys k a))

module _ {A : Type 0} where
  -- a view of one seat: where its steps stand among those of all seats
  pub at_seat : (views : List (View A)) (id n : ℕ) (v : List A) → get_elem? views id ≡ some (n, v ∷ [])
      → (k : ℕ) × (get_elem? (seats_in views) k ≡ some v) × ((w : List A) → seats_in (set views id (n, w ∷ [])) ≡ set (seats_in views) k w)
  at_seat [] id n v e = absurd (some-ne-none (n, v ∷ []) (sym e))
  at_seat (x ∷ xs) zero n v e = grind (arith, common_steps)
  at_seat (x ∷ xs) (suc id) n v e =
      let r = at_seat xs id n v e in
      (length x.1 + r.0, at_behind x.1 (seats_in xs) r.0 ∙ r.1, λ w. ap (λ l. x.1 ++ l) (r.2 w) ∙ sym (set_behind x.1 (seats_in xs) r.0 w))

  pub shares_set : (views : List (View A)) (id : ℕ) (v w : View A) → get_elem? views id ≡ some v → shares (set views id w) + share_of v ≡ shares views + share_of w
  shares_set [] id v w e = absurd (some-ne-none v (sym e))
  shares_set (x ∷ xs) zero v w e = let is : share_of x ≡ share_of v = ap share_of (some-injective x v e) in omega arith
  shares_set (x ∷ xs) (suc id) v w e = let r = shares_set xs id v w e in omega arith

  pub shares_behind : (xs ys : List (View A)) → shares (xs ++ ys) ≡ shares xs + shares ys
  shares_behind [] ys = omega arith
  shares_behind (x ∷ xs) ys = let r = shares_behind xs ys in omega arith

  pub seats_behind : (xs ys : List (View A)) → seats_in (xs ++ ys) ≡ seats_in xs ++ seats_in ys
  seats_behind [] ys = refl
  seats_behind (x ∷ xs) ys = ap (λ l. x.1 ++ l) (seats_behind xs ys) ∙ sym (append_assoc x.1 (seats_in xs) (seats_in ys))

  -- the seats of a view stay
  pub seats_stay : (views : List (View A)) (id : ℕ) (v w : View A) → get_elem? views id ≡ some v → w.1 ≡ v.1 → seats_in (set views id w) ≡ seats_in views
  seats_stay [] id v w e same = refl
  seats_stay (x ∷ xs) zero v w e same = ap (λ l. l ++ seats_in xs) (same ∙ ap (λ (y : View A). y.1) (sym (some-injective x v e)))
  seats_stay (x ∷ xs) (suc id) v w e same = ap (λ l. x.1 ++ l) (seats_stay xs id v w e same)

  -- a seat is dealt
  pub dealt_seats : (views : List (View A)) (id : ℕ) (v : View A) → get_elem? views id ≡ some v → seats_in (set views id (v.0 - 1, v.1) ++ (0, [] ∷ []) ∷ []) ≡ seats_in views ++ [] ∷ []
  dealt_seats views id v e = seats_behind (set views id (v.0 - 1, v.1)) ((0, [] ∷ []) ∷ []) ∙ ap (λ l. l ++ [] ∷ []) (seats_stay views id v (v.0 - 1, v.1) e refl)

  pub dealt_shares : (views : List (View A)) (id : ℕ) (v : View A) → get_elem? views id ≡ some v → 0 < v.0 → shares (set views id (v.0 - 1, v.1) ++ (0, [] ∷ []) ∷ []) ≡ shares views
  dealt_shares views id v e some_left = omega (arith, shares_behind (set views id (v.0 - 1, v.1)) ((0, [] ∷ []) ∷ []), shares_set views id v (v.0 - 1, v.1) e)

  -- a view has no seat any more
  taken_out : (views : List (View A)) (other : ℕ) (w : View A) → get_elem? views other ≡ some w → Rearranged (seats_in views) (w.1 ++ seats_in (set views other (0, [])))
  taken_out [] other w e = absurd (some-ne-none w (sym e))
  taken_out (x ∷ xs) zero w e = equal _ _ (ap (λ (y : View A). y.1 ++ seats_in xs) (some-injective x w e))
  taken_out (x ∷ xs) (suc other) w e = grind (arith, common_steps, then, behind, moved_up, (taken_out xs other w e), (behind x.1 (seats_in xs) (w.1 ++ seats_in (set xs other (0, []))) (taken_out xs other w e)), (moved_up x.1 w.1 (seats_in (set xs other (0, [])))))

  -- a view has seats more
  put_in : (views : List (View A)) (id n : ℕ) (v : View A) (ws : List (List A)) → get_elem? views id ≡ some v → Rearranged (ws ++ seats_in views) (seats_in (set views id (n, ws ++ v.1)))
  put_in [] id n v ws e = absurd (some-ne-none v (sym e))
  put_in (x ∷ xs) zero n v ws e = grind (arith, common_steps, equal, append_assoc)
  put_in (x ∷ xs) (suc id) n v ws e = grind (arith, common_steps, then, moved_up, behind, (put_in xs id n v ws e), (moved_up ws x.1 (seats_in xs)), (behind x.1 (ws ++ seats_in xs) (seats_in (set xs id (n, ws ++ v.1))) (put_in xs id n v ws e)))

  -- a view takes in another's seats
  pub joined_seats : (views : List (View A)) (id other n : ℕ) (v w : View A) → get_elem? views id ≡ some v → (other ≡ id → ⊥) → get_elem? (set views id (n, w.1 ++ v.1)) other ≡ some w
      → Rearranged (seats_in views) (seats_in (set (set views id (n, w.1 ++ v.1)) other (0, [])))
  joined_seats [] id other n v w here apart there = absurd (some-ne-none v (sym here))
  joined_seats (x ∷ xs) zero zero n v w here apart there = absurd (apart refl)
  joined_seats (x ∷ xs) zero (suc other) n v w here apart there =
      let rest = seats_in (set xs other (0, [])) in
      grind (arith, common_steps, then, behind, taken_out, moved_up, equal, append_assoc, (behind x.1 (seats_in xs) (w.1 ++ rest) (taken_out xs other w there)), (taken_out xs other w there), (moved_up x.1 w.1 rest), (append_assoc w.1 x.1 rest))
  joined_seats (x ∷ xs) (suc id) zero n v w here apart there = grind (arith, common_steps, then, equal, put_in)
  joined_seats (x ∷ xs) (suc id) (suc other) n v w here apart there =
      behind x.1 (seats_in xs) (seats_in (set (set xs id (n, w.1 ++ v.1)) other (0, []))) (joined_seats xs id other n v w here (λ e. apart (ap suc e)) there)

  pub joined_shares : (views : List (View A)) (id other : ℕ) (v w : View A) → get_elem? views id ≡ some v → get_elem? (set views id (v.0 + w.0, w.1 ++ v.1)) other ≡ some w
      → shares (set (set views id (v.0 + w.0, w.1 ++ v.1)) other (0, [])) ≡ shares views
  joined_shares views id other v w here there = grind (arith, common_steps, (shares_set views id v (v.0 + w.0, w.1 ++ v.1) here), (shares_set (set views id (v.0 + w.0, w.1 ++ v.1)) other w (0, []) there), (length-append w.1 v.1))

  no_seats : (views : List (View A)) → shares views ≡ 0 → seats_in views ≡ []
  no_seats [] e = refl
  no_seats (x ∷ xs) e = grind (arith, common_steps, nil_from_length, (no_seats xs (omega arith)))

  -- a view that stands for all seats has them all
  pub has_all : (views : List (View A)) (id : ℕ) (v : View A) → get_elem? views id ≡ some v → shares views ≡ share_of v → seats_in views ≡ v.1
  has_all [] id v e all = absurd (some-ne-none v (sym e))
  has_all (x ∷ xs) zero v e all = grind (arith, common_steps, no_seats, append-nil)
  has_all (x ∷ xs) (suc id) v e all =
      let within = share_within xs id v e in
      let none : x.1 ≡ [] = nil_from_length x.1 (omega arith) in
      ap (λ l. l ++ seats_in xs) none ∙ has_all xs id v e (omega arith)
    where
      share_within : (views : List (View A)) (id : ℕ) (v : View A) → get_elem? views id ≡ some v → share_of v ≤ shares views
      share_within [] id v e = absurd (some-ne-none v (sym e))
      share_within (x ∷ xs) zero v e = let s : share_of x ≡ share_of v = ap share_of (some-injective x v e) in omega arith
      share_within (x ∷ xs) (suc id) v e = let r = share_within xs id v e in omega arith
