-- All hands of a deal are taken back.
use Rattle.std.proofs.Common.{◌≡◌, ◌≢◌, ◌⊎◌, inl, inr, ⊎_elim, ℕ, zero, suc, ◌+◌, ◌<◌, ◌≤◌, ◌%◌, zero-add, suc-add, true, List, [], ◌∷◌, ◌++◌, map, length, set, get_or, Some, refl, sym, ap, ◌∙◌, subst, mod-lt, eq-eqb, ne_eqb, Bool, arith, slice_get, if◌then◌else◌}
use mathlib.Core.Option.{some, some-ne-none}
use mathlib.Core.Logic.{dite}
use native.Mathlib.Decide.{ℕ_discrete}
use lib.ListN.{get_elem?}
use Rattle.cert_search.specs.declared.deque.DequeView.{DequeView}
use Rattle.cert_search.specs.declared.hand.Hand.{Hand}
use Rattle.cert_search.specs.declared.own.Own.{Own}
use Rattle.cert_search.specs.declared.deque.Holder.TheVariants.{Owner}
use Rattle.cert_search.specs.Deque.{both_views, out_of, claims_of, Settles}
use Rattle.cert_search.proofs.Claims.{owner_out}
use Rattle.cert_search.specs.NamedViews.{Name, NamedView, SameDeque, own_named, look, name_at, IsRound}
use Rattle.cert_search.specs.Dealing.{names_in, own_name}
use Rattle.cert_search.specs.Hands.{named_views_of, names_of, deque_at, had_from, IsOfDeal}
use Rattle.cert_search.specs.Settled.{AreOfDeal, Stands, HadOnce, EachHad, own_views, hand_own, others_of, all_others, taken_back, AreTied, EachTaken, EachSettles}
use Rattle.cert_search.proofs.Steps.{in_range}
use Rattle.cert_search.proofs.Rows.{map_set, map_len, map_get, map_at, map_from, map_twice, set_same, set_at, set_other, within}
use Rattle.cert_search.proofs.Shares.{claims_in, claims_has}
use Rattle.cert_search.proofs.Rounds.{look_first, looked, view_of, round_at, view_at, view_apart}
use Rattle.cert_search.proofs.Gots.{flat, flat_at, flat_from, place, place_apart, gots, gots_each, gots_none, gots_one, tally, tally_append, tally_none, tally_one, taken_out, taken_owner, taken_end, taken_end_at, taken_here, taken_else, taken_got, taken_dealt}

-- one view is taken back
module _ (first owns : List Own) (o p : Own) (s : NamedView) (rest all : List NamedView) (lt : s.0 < length owns) (is : o ≡ get_or owns s.0 o) (same : SameDeque (own_named o) (own_named p)) (both : (own_named p).1 ≡ both_views (own_named o).1 s.1) where
  abbrev now : List Own
  now = set owns s.0 p

  here : {B : Type 0} (f : Own → B) → slice_get (map f owns) s.0 ≡ Some (f o)
  here f = map_get f owns s.0 o lt ∙ ap (λ y. Some (f y)) (sym is)

  pub gather_names : names_in now ≡ names_in owns
  gather_names = map_set own_name owns s.0 p ∙ ap (λ q. set (map own_name owns) s.0 q) same.1 ∙ set_same (map own_name owns) s.0 (own_name o) (here own_name)

  abbrev Taking : List Own → List NamedView → Type 0
  Taking owns left = (d : ℕ) (v : DequeView) → slice_get (own_views first) d ≡ Some v → (u : DequeView) × (slice_get (own_views owns) d ≡ Some u) × (taken_back d u left ≡ taken_back d v all)

  pub gather_step : Taking owns (s ∷ rest) → Taking now rest
  gather_step taking d v e =
      let t = taking d v e in
      let view = λ (x : Own). (own_named x).1 in
      let moved = map_set view owns s.0 p in
      dite (ℕ_discrete s.0 d)
      (λ (mine : s.0 ≡ d).
      let was : Some (own_named o).1 ≡ Some t.0 = sym (here view) ∙ ap (slice_get (own_views owns)) mine ∙ t.1 in
      let old : (own_named o).1 ≡ t.0 = cc (was) in
      let at : slice_get (set (own_views owns) s.0 (own_named p).1) s.0 ≡ Some (own_named p).1 = set_at (own_views owns) s.0 (own_named p).1 (own_named o).1 (here view) in
      ((own_named p).1, ap (slice_get (own_views now)) (sym mine) ∙ ap (λ l. slice_get l s.0) moved ∙ at, ap (λ u. taken_back d u rest) (both ∙ ap (λ u. both_views u s.1) old) ∙ sym (taken_here d t.0 s rest mine) ∙ t.2))
      (λ (apart : s.0 ≢ d).
      (t.0, ap (λ l. slice_get l d) moved ∙ set_other (own_views owns) s.0 d (own_named p).1 (λ f. apart (sym f)) ∙ t.1, sym (taken_else d t.0 s rest apart) ∙ t.2))

-- what stands among all hands' views of others' deques
others_from : (hands : List Hand) (k : ℕ) (s : NamedView) → slice_get (all_others hands) k ≡ Some s → (i : ℕ) × (h : Hand) × (j : ℕ) × (slice_get hands i ≡ Some h) × (slice_get (others_of h) j ≡ Some s)
others_from [] k s e = absurd (cc (e))
others_from (h ∷ hs) k s e =
    ⊎_elim
    (λ (here : slice_get (others_of h) k ≡ Some s). (0, h, k, refl, here))
    (λ (there : (m : ℕ) × (slice_get (all_others hs) m ≡ Some s)). let t = others_from hs there.0 s there.1 in (suc t.0, t.1, t.2, t.3, t.4))
    (either_get (others_of h) (all_others hs) k s e)
  where
    either_get : (l m : List NamedView) (k : ℕ) (b : NamedView) → slice_get (l ++ m) k ≡ Some b → (slice_get l k ≡ Some b) ⊎ ((j : ℕ) × (slice_get m j ≡ Some b))
    either_get [] m k b e = inr (k, e)
    either_get (x ∷ xs) m zero b e = inl e
    either_get (x ∷ xs) m (suc k) b e = either_get xs m k b e

-- a view is of one of the deques
pub tied_within : (owns : List Own) (s : NamedView) → slice_get (names_in owns) s.0 ≡ Some s.2 → s.0 < length owns
tied_within owns s e = let lt = within (names_in owns) s.0 s.2 e in let long = map_len own_name owns in omega (arith, lt, long)

pub tied_name : (owns : List Own) (s : NamedView) (o : Own) → slice_get (names_in owns) s.0 ≡ Some s.2 → o ≡ get_or owns s.0 o → own_name o ≡ s.2
tied_name owns s o e is =
    let both : Some (own_name o) ≡ Some s.2 = ap (λ y. Some (own_name y)) is ∙ sym (map_get own_name owns s.0 o (tied_within owns s e)) ∙ e in
    cc (both)

-- a view is of the hand's own deque, or of another
view_place : (P : Type 0) (own : NamedView) (others : List NamedView) (k : ℕ) (s : NamedView) → slice_get (own ∷ others) k ≡ Some s → (own ≡ s → P) → ((j : ℕ) → slice_get others j ≡ Some s → P) → P
view_place P own others zero s e here there = here (cc (e))
view_place P own others (suc k) s e here there = there k e

-- which deque a hand reaches, where it sees it
pub name_seen : (ps : List (ℕ × Name)) (k : ℕ) (p : ℕ × Name) → slice_get ps k ≡ Some p → ((j : ℕ) (q : ℕ × Name) → slice_get ps j ≡ Some q → q.0 ≡ p.0 → j ≡ k) → name_at p.0 ps ≡ Some p.1
name_seen [] k p e only = absurd (cc (e))
name_seen (x ∷ xs) zero p e only = let is : x ≡ p = cc (e) in ap (λ (b : Bool). if b then Some x.1 else name_at p.0 xs) (eq-eqb x.0 p.0 (ap (λ (q : ℕ × Name). q.0) is)) ∙ ap (λ (q : ℕ × Name). Some q.1) is
name_seen (x ∷ xs) (suc k) p e only =
    ap (λ (b : Bool). if b then Some x.1 else name_at p.0 xs) (ne_eqb x.0 p.0 (λ f. let g = only 0 x refl f in omega (arith, g)))
    ∙ name_seen xs k p e (λ j q f g. let h = only (suc j) q f g in omega (arith, h))

-- the hand sees the deque under its number
seen : (claims workers : ℕ) (h : Hand) → IsOfDeal claims workers h → (k : ℕ) (s : NamedView) → slice_get (named_views_of h) k ≡ Some s → deque_at h s.0 ≡ Some s.2
seen claims workers h deal k s e =
    let pair : NamedView → ℕ × Name = λ (t : NamedView). (t.0, t.2) in
    name_seen (names_of h) k (pair s) (map_at pair (named_views_of h) k s e)
    (λ j q f same.
    let t = map_from pair (named_views_of h) j q f in
    let number : t.0.0 ≡ s.0 = ap (λ (r : ℕ × Name). r.0) t.2 ∙ same in
    view_apart claims workers h.own.which (named_views_of h) deal.round k j s t.0 e t.1 number)

-- what the workers have learned, of each hand
pub views_are : (hands : List Hand) (owns news : List Own) (ss : List NamedView) → (map own_named owns ≡ map hand_own hands) × (ss ≡ all_others hands) → EachTaken owns ss news → EachSettles news
    → (d : ℕ) (h : Hand) → slice_get hands d ≡ Some h → Settles (taken_back d (own_named h.own).1 (all_others hands))
views_are hands owns news ss same taken learned d h e =
    let view : NamedView → DequeView = λ (s : NamedView). s.1 in
    let at : slice_get (own_views owns) d ≡ Some (hand_own h).1 =
    sym (ap (λ l. slice_get l d) (map_twice own_named view owns)) ∙ ap (λ l. slice_get (map view l) d) same.0 ∙ ap (λ l. slice_get l d) (map_twice hand_own view hands) ∙ map_at (λ (x : Hand). (hand_own x).1) hands d h e in
    subst (λ l. Settles (taken_back d (hand_own h).1 l)) same.1 (learned d (taken_back d (hand_own h).1 ss) (taken d (hand_own h).1 at))

get_longer : {A : Type 0} (l m : List A) (k : ℕ) (b : A) → slice_get l k ≡ Some b → slice_get (l ++ m) k ≡ Some b
get_longer [] m k b e = absurd (cc (e))
get_longer (y ∷ ys) m zero b e = e
get_longer (y ∷ ys) m (suc k) b e = get_longer ys m k b e

get_behind : {A : Type 0} (l m : List A) (k : ℕ) (b : A) → slice_get m k ≡ Some b → slice_get (l ++ m) (length l + k) ≡ Some b
get_behind [] m k b e = rw zero-add e
get_behind (y ∷ ys) m k b e = rw suc-add (get_behind ys m k b e)

-- the lists that a function gives, on end
module _ {A B : Type 0} (f : B → List A) where
  abbrev joined : List B → List A
  joined [] = []
  joined (x ∷ xs) = f x ++ joined xs

  joined_at : (xs : List B) (i j : ℕ) (x : B) (s : A) → slice_get xs i ≡ Some x → slice_get (f x) j ≡ Some s → (k : ℕ) × (slice_get (joined xs) k ≡ Some s)
  joined_at [] i j x s e g = absurd (cc (e))
  joined_at (y ∷ ys) zero j x s e g = let same : y ≡ x = cc (e) in (j, get_longer (f y) (joined ys) j s (ap (λ z. slice_get (f z) j) same ∙ g))
  joined_at (y ∷ ys) (suc i) j x s e g = let t = joined_at ys i j x s e g in (length (f y) + t.0, get_behind (f y) (joined ys) t.0 s t.1)

others_joined : (hands : List Hand) → joined others_of hands ≡ all_others hands
others_joined [] = refl
others_joined (h ∷ hs) = ap (λ l. others_of h ++ l) (others_joined hs)

-- what stands among the hands' views
others_at : (hands : List Hand) (i j : ℕ) (h : Hand) (s : NamedView) → slice_get hands i ≡ Some h → slice_get (others_of h) j ≡ Some s → (k : ℕ) × (slice_get (all_others hands) k ≡ Some s)
others_at hands i j h s e f = let t = joined_at others_of hands i j h s e f in (t.0, ap (λ l. slice_get l t.0) (sym (others_joined hands)) ∙ t.1)

-- the views of a deque among those of hands, each of which has one, except one hand
module _ (d : ℕ) where
  abbrev Each : ℕ → List Hand → Type 0
  Each a hands = (i : ℕ) (h : Hand) → slice_get hands i ≡ Some h → (a + i ≡ d → tally d (others_of h) ≡ 0) × (a + i ≢ d → tally d (others_of h) ≡ 1)

  tally_past : (a : ℕ) (hands : List Hand) → d < a → Each a hands → tally d (all_others hands) ≡ length hands
  tally_past a [] lt each = refl
  tally_past a (h ∷ hs) lt each =
      let first = (each 0 h refl).1 (λ e. omega (arith, e)) in
      let more = tally_past (a + 1) hs (omega arith) (λ i g e. let same : a + suc i ≡ a + 1 + i = omega arith in ((λ f. (each (suc i) g e).0 (same ∙ f)), (λ f. (each (suc i) g e).1 (λ z. f (sym same ∙ z))))) in
      let both = tally_append d (others_of h) (all_others hs) in
      omega (arith, first, more, both)

  tally_all : (a : ℕ) (hands : List Hand) → a ≤ d → d < a + length hands → Each a hands → tally d (all_others hands) + 1 ≡ length hands
  tally_all a [] le lt each = absurd (omega arith)
  tally_all a (h ∷ hs) le lt each =
      let rest : Each (a + 1) hs = λ i g e. let same : a + suc i ≡ a + 1 + i = omega arith in ((λ f. (each (suc i) g e).0 (same ∙ f)), (λ f. (each (suc i) g e).1 (λ z. f (sym same ∙ z)))) in
      let both = tally_append d (others_of h) (all_others hs) in
      dite (ℕ_discrete a d)
      (λ (is : a ≡ d).
      let first = (each 0 h refl).0 (omega (arith, is)) in
      let more = tally_past (a + 1) hs (omega (arith, is)) rest in
      omega (arith, first, more, both))
      (λ (apart : a ≢ d).
      let first = (each 0 h refl).1 (λ e. apart (omega (arith, e))) in
      let more = tally_all (a + 1) hs (omega (arith, le, apart)) (omega (arith, lt)) rest in
      omega (arith, first, more, both))

-- all hands of a deal
module _ (claims : ℕ) (hands : List Hand) (deal : AreOfDeal claims hands) where
  abbrev count : ℕ
  count = length hands

  -- the hand whose own deque is the deque d
  hand_at : (d : ℕ) → d < count → (h : Hand) × (slice_get hands d ≡ Some h)
  hand_at d lt = by_list hands d lt
    where
      by_list : (l : List Hand) (d : ℕ) → d < length l → (h : Hand) × (slice_get l d ≡ Some h)
      by_list [] d lt = absurd (omega arith)
      by_list (x ∷ xs) zero lt = (x, refl)
      by_list (x ∷ xs) (suc d) lt = by_list xs d (omega arith)

  module _ (i : ℕ) (h : Hand) (at : slice_get hands i ≡ Some h) where
    pub of_deal : IsOfDeal claims count h
    of_deal = (deal.each i h at).0

    pub ring : IsRound claims count h.own.which (named_views_of h)
    ring = of_deal.round

    pub own_is : h.own.which ≡ i
    own_is = (deal.each i h at).1

    -- what it sees of other deques is of deques of the deal
    pub number_below : (k : ℕ) (s : NamedView) → slice_get (named_views_of h) k ≡ Some s → s.0 < count
    number_below k s e =
        let t = view_at claims count h.own.which (named_views_of h) ring k s e in
        let r = round_at count h.own.which k s.0 ring.within t.0 in
        let some : 0 < count = omega (arith, ring.within) in
        let lt = mod-lt (h.own.which + k) some in
        omega (arith, lt, r.1)

    -- each view of another's deque is of the deque that its worker has
    pub view_tied : (k : ℕ) (s : NamedView) → slice_get (others_of h) k ≡ Some s → (g : Hand) × (slice_get hands s.0 ≡ Some g) × (own_name g.own ≡ s.2)
    view_tied k s e =
        let lt = number_below (suc k) s e in
        let g = hand_at s.0 lt in
        let mine : deque_at h s.0 ≡ Some s.2 = seen claims count h of_deal (suc k) s e in
        let theirs : deque_at g.0 g.0.own.which ≡ Some (own_name g.0.own) = seen claims count g.0 (deal.each s.0 g.0 g.1).0 0 (own_named g.0.own) refl in
        let own : g.0.own.which ≡ s.0 = (deal.each s.0 g.0 g.1).1 in
        let shared = deal.shared i s.0 s.0 h g.0 at g.1 lt in
        let both : Some (own_name g.0.own) ≡ Some s.2 = sym theirs ∙ ap (deque_at g.0) own ∙ sym shared.same ∙ mine in
        (g.0, g.1, cc (both))

  pub all_tied : (owns : List Own) → map own_named owns ≡ map hand_own hands → AreTied (names_in owns) (all_others hands)
  all_tied owns same k s e =
      let t = others_from hands k s e in
      let g = view_tied t.0 t.1 t.3 t.2 s t.4 in
      sym (ap (λ l. slice_get l s.0) (map_twice own_named (λ (u : NamedView). u.2) owns))
      ∙ ap (λ l. slice_get (map (λ (u : NamedView). u.2) l) s.0) same
      ∙ ap (λ l. slice_get l s.0) (map_twice hand_own (λ (u : NamedView). u.2) hands)
      ∙ map_at (λ (x : Hand). (hand_own x).2) hands s.0 g.0 g.1 ∙ ap Some g.2

  -- the worker of the deque d, once all views are taken back
  module _ (d : ℕ) (own : Hand) (mine : slice_get hands d ≡ Some own) where
    abbrev view : DequeView
    view = (own_named own.own).1

    abbrev lists : List (List ℕ)
    lists = view.got ∷ map (λ h. gots d (others_of h)) hands

    pub all_got : (taken_back d view (all_others hands)).got ≡ flat lists
    all_got = taken_got d view (all_others hands) ∙ ap (λ l. view.got ++ l) (gots_each d hands)

    pub all_dealt : (taken_back d view (all_others hands)).dealt ≡ claims_of count d claims
    all_dealt =
        let share = (view_at claims count own.own.which (named_views_of own) (ring d own mine) 0 (own_named own.own) refl).1 in
        taken_dealt d view (all_others hands) ∙ share ∙ ap (λ n. claims_of count n claims) (own_is d own mine)

    -- where what the hand i has had of the deque stands among the lists
    slot_of : (i : ℕ) (h : Hand) → slice_get hands i ≡ Some h → (n : ℕ) × (slice_get lists n ≡ Some (had_from h d)) × (((i ≡ d) × (n ≡ 0)) ⊎ ((i ≢ d) × (n ≡ suc i)))
    slot_of i h at =
        dite (ℕ_discrete i d)
        (λ (is : i ≡ d).
        let both : Some own ≡ Some h = sym mine ∙ ap (slice_get hands) (sym is) ∙ at in
        let same : own ≡ h = cc (both) in
        let got : had_from h d ≡ view.got = ap (λ (x : Hand). had_from x d) (sym same) ∙ ap (λ (v : DequeView). v.got) (look_first (own_named own.own) (others_of own) d (own_is d own mine)) in
        (0, ap Some (sym got), inl (is, refl)))
        (λ (apart : i ≢ d).
        let number : h.own.which ≢ d = λ e. apart (sym (own_is i h at) ∙ e) in
        let had : had_from h d ≡ (look d (others_of h)).got = ap (λ (b : Bool). (if b then (own_named h.own).1 else look d (others_of h)).got) (ne_eqb h.own.which d number) in
        let one = gots_one d (others_of h) (λ j k s t e f is is'.
        let g = view_apart claims count h.own.which (named_views_of h) (ring i h at) (suc k) (suc j) t s f e (is ∙ sym is') in omega (arith, g)) in
        (suc i, map_at (λ x. gots d (others_of x)) hands i h at ∙ ap Some (one ∙ sym had), inr (apart, refl)))

    -- two slots are two hands
    slot_apart : (i j n m : ℕ) → ((i ≡ d) × (n ≡ 0)) ⊎ ((i ≢ d) × (n ≡ suc i)) → ((j ≡ d) × (m ≡ 0)) ⊎ ((j ≢ d) × (m ≡ suc j)) → n ≡ m → i ≡ j
    slot_apart i j n m a b same =
        ⊎_elim
        (λ (s : (i ≡ d) × (n ≡ 0)). ⊎_elim (λ (t : (j ≡ d) × (m ≡ 0)). s.0 ∙ sym t.0) (λ (t : (j ≢ d) × (m ≡ suc j)). absurd (omega (arith, same, s.1, t.1))) b)
        (λ (s : (i ≢ d) × (n ≡ suc i)). ⊎_elim (λ (t : (j ≡ d) × (m ≡ 0)). absurd (omega (arith, same, s.1, t.1))) (λ (t : (j ≢ d) × (m ≡ suc j)). omega (arith, same, s.1, t.1)) b)
        a

    module _ (settled : Settles (taken_back d view (all_others hands))) where
      -- each claim stands in the worker's view
      stands_at : (i k claim : ℕ) → (s : Stands hands i d k claim) → get_elem? (taken_back d view (all_others hands)).got (place lists (slot_of i s.0 s.1).0 k) ≡ some claim
      stands_at i k claim s = let n = slot_of i s.0 s.1 in ap (λ l. get_elem? l (place lists n.0 k)) all_got ∙ flat_at lists n.0 k claim (had_from s.0 d) n.1 s.3

      pub of_deque : (i k claim : ℕ) → Stands hands i d k claim → (claim < claims) × (claim % count ≡ d)
      of_deque i k claim s =
          let n = slot_of i s.0 s.1 in
          let t = settled.dealt (place lists n.0 k) claim (stands_at i k claim s) in
          claims_in count d claims t.0 claim (ap (λ l. get_elem? l t.0) (sym all_dealt) ∙ t.1)

      pub had_apart : (i k j l claim : ℕ) → Stands hands i d k claim → Stands hands j d l claim → (i ≡ j) × (k ≡ l)
      had_apart i k j l claim s t =
          let n = slot_of i s.0 s.1 in
          let m = slot_of j t.0 t.1 in
          let one = settled.once (place lists n.0 k) (place lists m.0 l) claim (stands_at i k claim s) (stands_at j l claim t) in
          let same = place_apart lists n.0 k m.0 l (had_from s.0 d) (had_from t.0 d) n.1 m.1 (in_range (had_from s.0 d) k claim s.3) (in_range (had_from t.0 d) l claim t.3) one in
          (slot_apart i j n.0 m.0 n.2 m.2 same.0, same.1)

  -- the workers have learned what stands in their views
  module _ (learned : (d : ℕ) (h : Hand) → slice_get hands d ≡ Some h → Settles (taken_back d (own_named h.own).1 (all_others hands))) where
    below_count : (i d k claim : ℕ) → Stands hands i d k claim → d < count
    below_count i d k claim s = s.2

    pub had_once : HadOnce hands
    had_once i d k j e l claim s t =
        let own = hand_at d (below_count i d k claim s) in
        let own' = hand_at e (below_count j e l claim t) in
        let a = of_deque d own.0 own.1 (learned d own.0 own.1) i k claim s in
        let b = of_deque e own'.0 own'.1 (learned e own'.0 own'.1) j l claim t in
        let same : d ≡ e = sym a.1 ∙ b.1 in
        let one = had_apart d own.0 own.1 (learned d own.0 own.1) i k j l claim s (subst (λ n. Stands hands j n l claim) (sym same) t) in
        (one.0, same, one.1)

    module _ (i d claim : ℕ) (h : Hand) (at : slice_get hands i ≡ Some h) (inside : d < count) (ended : (look d (named_views_of h)).ended ≡ true) (dealt : claim < claims) (turn : claim % count ≡ d) where
      abbrev worker : Hand
      worker = (hand_at d inside).0

      mine : slice_get hands d ≡ Some worker
      mine = (hand_at d inside).1

      abbrev known : DequeView
      known = taken_back d (own_named worker.own).1 (all_others hands)

      -- each hand but the worker has one view of the deque
      each_one : Each d 0 hands
      each_one j g e = (
        (λ same. tally_none d (others_of g) (λ k s f is.
            let z = view_apart claims count g.own.which (named_views_of g) (ring j g e) 0 (suc k) (own_named g.own) s refl f (is ∙ sym (own_is j g e ∙ (let w : j ≡ d = omega (arith, same) in w))) in omega (arith, z))),
        (λ differ.
            let t = view_of claims count g.own.which (named_views_of g) (ring j g e) d inside in
            by_place j g e differ t.0 t.1 t.2 t.3),
      )
        where
          by_place : (j : ℕ) (g : Hand) → slice_get hands j ≡ Some g → 0 + j ≢ d → (k : ℕ) (s : NamedView) → slice_get (named_views_of g) k ≡ Some s → s.0 ≡ d → tally d (others_of g) ≡ 1
          by_place j g e differ zero s f is =
              let first : own_named g.own ≡ s = cc (f) in
              absurd (differ (zero-add j ∙ sym (own_is j g e) ∙ ap (λ (u : NamedView). u.0) first ∙ is))
          by_place j g e differ (suc k) s f is =
              tally_one d (others_of g) k s f is (λ m t f' is'.
              let z = view_apart claims count g.own.which (named_views_of g) (ring j g e) (suc k) (suc m) s t f f' (is' ∙ sym is) in omega (arith, z))

      only_holder : known.holder ≡ Owner 0
      only_holder =
          let all = tally_all d 0 hands (omega arith) (omega (arith, inside)) each_one in
          let out = taken_out d (own_named worker.own).1 (all_others hands) in
          let lent = (of_deal d worker mine).lent in
          let none : out_of known.holder ≡ 0 = omega (arith, all, out, lent) in
          let owner = owner_out known (taken_owner d (own_named worker.own).1 (all_others hands) worker.own.owner) in
          let zero_ : owner.0 ≡ 0 = sym (ap out_of owner.1) ∙ none in
          owner.1 ∙ ap Owner zero_

      abbrev IsEnd : Type 0
      IsEnd = known.ended ≡ true

      end_here : (s : NamedView) → own_named h.own ≡ s → s.0 ≡ d → s.1.ended ≡ true → IsEnd
      end_here s first is mark =
          let number : i ≡ d = sym (own_is i h at) ∙ ap (λ (u : NamedView). u.0) first ∙ is in
          let both : Some worker ≡ Some h = sym mine ∙ ap (slice_get hands) (sym number) ∙ at in
          let same : worker ≡ h = cc (both) in
          let ended_ : (own_named worker.own).1.ended ≡ true = ap (λ (x : Hand). (own_named x.own).1.ended) same ∙ ap (λ (u : NamedView). u.1.ended) first ∙ mark in
          taken_end d (own_named worker.own).1 (all_others hands) ended_

      end_there : (s : NamedView) (j : ℕ) → slice_get (others_of h) j ≡ Some s → s.0 ≡ d → s.1.ended ≡ true → IsEnd
      end_there s j e is mark = let p = others_at hands i j h s at e in taken_end_at d (own_named worker.own).1 (all_others hands) p.0 s p.1 is mark

      -- the mark has come back to the worker
      end_known : IsEnd
      end_known =
          let t = view_of claims count h.own.which (named_views_of h) (ring i h at) d inside in
          let looked_ = looked claims count h.own.which (named_views_of h) (ring i h at) t.0 t.1 t.2 in
          let mark : t.1.1.ended ≡ true = ap (λ (v : DequeView). v.ended) (sym looked_ ∙ ap (λ n. look n (named_views_of h)) t.3) ∙ ended in
          view_place IsEnd (own_named h.own) (others_of h) t.0 t.1 t.2 (λ first. end_here t.1 first t.3 mark) (λ j e. end_there t.1 j e t.3 mark)

      stands : (j : ℕ) × (k : ℕ) × Stands hands j d k claim
      stands =
          let c = claims_has count d claims claim dealt turn in
          let got = (learned d worker mine).all_had only_holder end_known c.0 claim (ap (λ l. get_elem? l c.0) (all_dealt d worker mine) ∙ c.1) in
          let place_ = flat_from (lists d worker mine) got.0 claim (ap (λ l. get_elem? l got.0) (sym (all_got d worker mine)) ∙ got.1) in
          by_list place_.0 place_.1 place_.2 place_.3 place_.4
        where
          by_list : (n k : ℕ) (l : List ℕ) → slice_get (lists d worker mine) n ≡ Some l → get_elem? l k ≡ some claim → (j : ℕ) × (k : ℕ) × Stands hands j d k claim
          by_list zero k l e f =
              let s = slot_of d worker mine d worker mine in
              let is : (own_named worker.own).1.got ≡ l = cc (e) in
              let had : had_from worker d ≡ (own_named worker.own).1.got = ap (λ (v : DequeView). v.got) (look_first (own_named worker.own) (others_of worker) d (own_is d worker mine)) in
              (d, k, (worker, mine, inside, ap (λ m. get_elem? m k) (had ∙ is) ∙ f))
          by_list (suc n) k l e f =
              let g = map_from (λ x. gots d (others_of x)) hands n l e in
              let s = slot_of d worker mine n g.0 g.1 in
              ⊎_elim
              (λ (t : (n ≡ d) × (s.0 ≡ 0)).
              let empty = gots_none d (others_of g.0) (λ m u f' is.
              let z = view_apart claims count g.0.own.which (named_views_of g.0) (ring n g.0 g.1) 0 (suc m) (own_named g.0.own) u refl f' (is ∙ sym (own_is n g.0 g.1 ∙ t.0)) in omega (arith, z)) in
              absurd (some-ne-none claim (sym (ap (λ m. get_elem? m k) (sym empty ∙ g.2) ∙ f))))
              (λ (t : (n ≢ d) × (s.0 ≡ suc n)).
              let both : Some (gots d (others_of g.0)) ≡ Some (had_from g.0 d) = sym (map_at (λ x. gots d (others_of x)) hands n g.0 g.1) ∙ ap (slice_get (lists d worker mine)) (sym t.1) ∙ s.1 in
              let same : gots d (others_of g.0) ≡ had_from g.0 d = cc (both) in
              (n, k, (g.0, g.1, inside, ap (λ m. get_elem? m k) (sym same ∙ g.2) ∙ f)))
              s.2

-- each claim of a deque has been had, whichever deal the hands are of
pub each_had : (hands : List Hand) → ((d : ℕ) (h : Hand) → slice_get hands d ≡ Some h → Settles (taken_back d (own_named h.own).1 (all_others hands))) → EachHad hands
each_had hands learned claims i d claim h deal at inside ended dealt turn = stands claims hands deal learned i d claim h at inside ended dealt turn
