-- Hands after their work.
use Rattle.std.proofs.Common.{◌≡◌, ◌∙◌, ℕ, zero, suc, ◌<◌, ◌%◌, List, [], ◌∷◌, map, length, get_or, Some, IsSome, All, Vec, Global, sym, ap, subst, refl, mod-lt, arith, slice_get}
use Rattle.cert_search.specs.declared.hand.Hand.{Hand}
use Rattle.cert_search.specs.declared.working.Found.{Found}
use Rattle.cert_search.specs.declared.working.Worked.{Worked}
use Rattle.plan.specs.Common.{PlacedClaim}
use Rattle.cert_search.specs.Hands.{own_deque, deque_at, IsOfDeal, AreDealt, ShareDeques, SameDeal, HasEnded}
use Rattle.cert_search.specs.NamedViews.{name_at}
use Rattle.cert_search.specs.Settled.{AreOfDeal, AllHad, HadOnce, EachHad}
use Rattle.cert_search.specs.Places.{AreWorked, IsWork}
use Rattle.cert_search.proofs.Rows.{map_from, map_len, within, get_at, some_is, all_of}

-- the hand stays of its deals by two steps
pub same_twice : (h g f : Hand) → SameDeal h g → SameDeal g f → SameDeal h f
same_twice h g f one two = record { deal = λ claims workers is. two.deal claims workers (one.deal claims workers is); deques = two.deques ∙ one.deques; names = two.names ∙ one.names }

pub same_none : (h : Hand) → SameDeal h h
same_none h = record { deal = λ claims workers is. is; deques = refl; names = refl }

-- hands that were dealt are of one deal
pub dealt_together : (claims workers : ℕ) (hands : List Hand) → length hands ≡ workers → AreDealt claims workers hands → ((i : ℕ) (h : Hand) → slice_get hands i ≡ Some h → IsOfDeal claims workers h) → ShareDeques workers hands → AreOfDeal claims hands
dealt_together claims workers hands long dealt deal shared = record {
  each = λ i h e. (subst (λ n. IsOfDeal claims n h) (sym long) (deal i h e), (dealt i h e).own_is);
  shared = subst (λ n. ShareDeques n hands) (sym long) shared;
}

-- a fact of each hand
pub deal_at : (claims workers : ℕ) (hands : List Hand) → All (IsOfDeal claims workers) hands → (i : ℕ) (h : Hand) → slice_get hands i ≡ Some h → IsOfDeal claims workers h
deal_at claims workers hands all i h e =
    let lt = within hands i h e in
    let here : Some h ≡ Some (get_or hands i h) = sym e ∙ get_at hands i h lt in
    subst (IsOfDeal claims workers) (sym (some_is h (get_or hands i h) here)) (all i h lt)

there : (xs : List Hand) (i : ℕ) → i < length xs → (h : Hand) × (slice_get xs i ≡ Some h)
there [] i lt = absurd (omega arith)
there (x ∷ xs) zero lt = (x, refl)
there (x ∷ xs) (suc i) lt = there xs i (omega arith)

-- all workers have ended
module _ (budget : ℕ) (placed : List PlacedClaim) (hands : List Hand) (works : List Worked) (worked : AreWorked budget placed hands works) where
  abbrev ended : List Hand
  ended = map (λ w. w.hand) works

  as_many : length ended ≡ length hands
  as_many = map_len (λ w. w.hand) works ∙ worked.as_many

  -- the hand of a worker, as it was
  before : (i : ℕ) (g : Hand) → slice_get ended i ≡ Some g → (h : Hand) × (slice_get hands i ≡ Some h) × HasEnded h g
  before i g e =
      let w = map_from (λ (x : Worked). x.hand) works i g e in
      let lt : i < length hands = omega (arith, within works i w.0 w.1, worked.as_many) in
      let h = there hands i lt in
      (h.0, h.1, subst (λ x. HasEnded h.0 x) w.2 (worked.each i h.0 w.0 h.1 w.1).hand)

  own_stays : (claims : ℕ) (h g : Hand) (old : IsOfDeal claims (length hands) h) → SameDeal h g → own_deque g ≡ own_deque h
  own_stays claims h g old same = ap (λ l. get_or l 0 (own_deque h)) same.deques

  pub still_dealt : (claims : ℕ) → AreOfDeal claims hands → AreOfDeal claims ended
  still_dealt claims deal = record {
    each = λ i g e.
        let t = before i g e in
        let was = deal.each i t.0 t.1 in
        (subst (λ n. IsOfDeal claims n g) (sym as_many) (t.2.deal.deal claims (length hands) was.0), own_stays claims t.0 g was.0 t.2.deal ∙ was.1);
    shared = λ i j d g f e e' lt.
        let t = before i g e in
        let u = before j f e' in
        let shares = deal.shared i j d t.0 u.0 t.1 u.1 (omega (arith, lt, as_many)) in
        let mine : deque_at g d ≡ deque_at t.0 d = ap (name_at d) t.2.deal.names in
        let theirs : deque_at f d ≡ deque_at u.0 d = ap (name_at d) u.2.deal.names in
        record { same = mine ∙ shares.same ∙ sym theirs; some = subst IsSome (sym mine) shares.some };
  }

  pub all_had : HadOnce ended → EachHad ended → AllHad hands
  all_had once each = record {
    ended = ended;
    deal = still_dealt;
    once = once;
    all = λ claims claim deal some lt.
        let below : claim % length ended < length ended = mod-lt claim (omega (arith, some, as_many)) in
        let g = there ended 0 (omega (arith, some, as_many)) in
        let t = before 0 g.0 g.1 in
        let end = t.2.at_end claims (length hands) (claim % length ended) (deal.each 0 t.0 t.1).0 (omega (arith, below, as_many)) in
        let had = each claims 0 (claim % length ended) claim g.0 (still_dealt claims deal) g.1 below end lt refl in
        (had.0, claim % length ended, had.1, had.2);
  }

  -- what each found
  pub all_found : All (IsWork budget placed) (map (λ w. w.founds) works)
  all_found = all_of (IsWork budget placed) (map (λ w. w.founds) works) each
    where
      each : (k : ℕ) (v : Vec Found Global) → k < length (map (λ w. w.founds) works) → slice_get (map (λ w. w.founds) works) k ≡ Some v → IsWork budget placed v
      each k v lt e =
          let w = map_from (λ (x : Worked). x.founds) works k v e in
          let inside : k < length hands = omega (arith, within works k w.0 w.1, worked.as_many) in
          let h = there hands k inside in
          subst (IsWork budget placed) w.2 (worked.each k h.0 w.0 h.1 w.1).found
