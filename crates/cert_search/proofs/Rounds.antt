-- What a hand knows of each deque, and one step of it.
use Rattle.std.proofs.Common.{◌≡◌, ◌≢◌, ⊎_elim, ℕ, zero, suc, ◌+◌, ◌-◌, ◌<◌, ◌≤◌, ◌%◌, ◌==◌, List, [], ◌∷◌, ◌++◌, map, length, set, get_or, Bool, true, false, Option, Some, None, IfSome, IfNone, All, refl, sym, ap, ◌∙◌, subst, eq-eqb, ne_eqb, mod-eq_of_lt, arith, slice_get, if◌then◌else◌}
use Rattle.std.proofs.Math.Nat.{add-mod_right}
use Rattle.std.proofs.lemmas.Bool.{cases_lt}
use lib.ListN.{get_elem?}
use Rattle.atomic_table.proofs.Lists.{one_turn}
use Rattle.cert_search.specs.declared.deque.DequeView.{DequeView}
use Rattle.cert_search.specs.declared.hand.Hand.{Hand}
use Rattle.cert_search.specs.declared.own.Own.{Own}
use Rattle.cert_search.specs.declared.steal_handle.StealHandle.{StealHandle}
use Rattle.cert_search.specs.Deque.{deque_view, claims_of}
use Rattle.cert_search.specs.NamedViews.{Name, NamedView, Ends, Gets, GetsOne, own_named, handle_named, own_calm, handle_calm, calm, calms, named_views, look, share_of, share, face, round_of, IsRound}
use Rattle.cert_search.specs.Hands.{named_views_of, had_from, IsOfDeal, SameDeal, TakesClaim, ComesAfterOwn, IsThrough}
use Rattle.cert_search.specs.Dealing.{own_out}
use Rattle.cert_search.proofs.Rows.{map_set, map_at, map_from, map_twice, set_same, set_at, within, all_from, get_at, range_get, range_len}
use Rattle.cert_search.proofs.Shares.{claims_in}

-- a list of views, looked up
pub look_at : (ss : List NamedView) (k : ℕ) (s : NamedView) → slice_get ss k ≡ Some s → ((j : ℕ) (t : NamedView) → slice_get ss j ≡ Some t → t.0 ≡ s.0 → j ≡ k) → look s.0 ss ≡ s.1
look_at [] k s e only = absurd (cc)
look_at (x ∷ xs) zero s e only =
    let is : x ≡ s = cc in
    ap (λ (b : Bool). if b then x.1 else look s.0 xs) (eq-eqb x.0 s.0 (ap (λ (y : NamedView). y.0) is)) ∙ ap (λ (y : NamedView). y.1) is
look_at (x ∷ xs) (suc k) s e only =
    ap (λ (b : Bool). if b then x.1 else look s.0 xs) (ne_eqb x.0 s.0 (λ f. let g = only 0 x refl f in omega (arith, g)))
    ∙ look_at xs k s e (λ j t f g. let h = only (suc j) t f g in omega (arith, h))

-- what is known of the other deques stays
pub look_else : (ss : List NamedView) (k : ℕ) (s t : NamedView) (d : ℕ) → slice_get ss k ≡ Some s → t.0 ≡ s.0 → d ≢ s.0 → look d (set ss k t) ≡ look d ss
look_else [] k s t d e same apart = refl
look_else (x ∷ xs) zero s t d e same apart =
    let is : x ≡ s = cc in
    ap (λ (b : Bool). if b then t.1 else look d xs) (ne_eqb t.0 d (λ f. apart (sym f ∙ same)))
    ∙ ap (λ (b : Bool). if b then x.1 else look d xs) (sym (ne_eqb x.0 d (λ f. apart (sym f ∙ ap (λ (y : NamedView). y.0) is))))
look_else (x ∷ xs) (suc k) s t d e same apart = ap (λ v. if x.0 == d then x.1 else v) (look_else xs k s t d e same apart)

-- the k-th deque that a worker tries
pub round_get : (workers which k : ℕ) → which < workers → k < workers → slice_get (round_of workers which) k ≡ Some ((which + k) % workers)
round_get workers which zero lt below = let e : which + 0 ≡ which = omega arith in ap Some (sym (ap (λ n. n % workers) e ∙ mod-eq_of_lt lt))
round_get workers which (suc k) lt below =
    let e : 1 + k ≡ suc k = omega arith in
    range_get (λ n. (which + n) % workers) 1 (workers - 1) k (omega arith) ∙ ap (λ n. Some ((which + n) % workers)) e

pub round_len : (workers which : ℕ) → which < workers → length (round_of workers which) ≡ workers
round_len workers which lt = let long = range_len (λ n. (which + n) % workers) 1 (workers - 1) in omega (arith, long)

pub round_at : (workers which k d : ℕ) → which < workers → slice_get (round_of workers which) k ≡ Some d → (k < workers) × ((which + k) % workers ≡ d)
round_at workers which k d lt e =
    let below : k < workers = omega (arith, within (round_of workers which) k d e, round_len workers which lt) in
    let is : Some ((which + k) % workers) ≡ Some d = sym (round_get workers which k lt below) ∙ e in
    (below, cc)

-- no deque is tried twice
pub round_apart : (workers which i j d : ℕ) → which < workers → slice_get (round_of workers which) i ≡ Some d → slice_get (round_of workers which) j ≡ Some d → i ≡ j
round_apart workers which i j d lt e f =
    let a = round_at workers which i d lt e in
    let b = round_at workers which j d lt f in
    in_order i j a.0 b.0 (a.1 ∙ sym b.1)
  where
    ordered : (i j : ℕ) → i ≤ j → j < workers → (which + i) % workers ≡ (which + j) % workers → i ≡ j
    ordered i j le below same = let e = one_turn (which + i) (which + j) workers (omega arith) (omega arith) same in omega (arith, e)

    in_order : (i j : ℕ) → i < workers → j < workers → (which + i) % workers ≡ (which + j) % workers → i ≡ j
    in_order i j below below' same =
        ⊎_elim
        (λ (gt : j < i). sym (ordered j i (omega arith) below (sym same)))
        (λ (le : i ≤ j). ordered i j le below' same)
        (cases_lt j i)

-- each deque is tried
pub round_has : (workers which d : ℕ) → which < workers → d < workers → (k : ℕ) × (slice_get (round_of workers which) k ≡ Some d)
round_has workers which d lt below =
    ⊎_elim
    (λ (more : d < which).
    let e : which + (d + workers - which) ≡ d + workers = omega arith in
    (d + workers - which, round_get workers which (d + workers - which) lt (omega arith) ∙ ap Some (ap (λ n. n % workers) e ∙ add-mod_right d workers ∙ mod-eq_of_lt below)))
    (λ (le : which ≤ d).
    let e : which + (d - which) ≡ d = omega arith in
    (d - which, round_get workers which (d - which) lt (omega arith) ∙ ap Some (ap (λ n. n % workers) e ∙ mod-eq_of_lt below)))
    (cases_lt d which)

-- a worker's views
module _ (claims workers which : ℕ) (ss : List NamedView) (round : IsRound claims workers which ss) where
  -- each is of a deque of the round, which has been dealt its claims
  pub view_at : (k : ℕ) (s : NamedView) → slice_get ss k ≡ Some s → (slice_get (round_of workers which) k ≡ Some s.0) × (s.1.dealt ≡ claims_of workers s.0 claims)
  view_at k s e =
      let t = map_from (share claims workers) (round_of workers which) k (share_of s) (ap (λ l. slice_get l k) (sym round.shares) ∙ map_at share_of ss k s e) in
      let number : t.0 ≡ s.0 = ap (λ (p : ℕ × List ℕ). p.0) t.2 in
      (t.1 ∙ ap Some number, sym (ap (λ (p : ℕ × List ℕ). p.1) t.2) ∙ ap (λ d. claims_of workers d claims) number)

  pub view_apart : (i j : ℕ) (s t : NamedView) → slice_get ss i ≡ Some s → slice_get ss j ≡ Some t → t.0 ≡ s.0 → j ≡ i
  view_apart i j s t e f same =
      round_apart workers which j i s.0 round.within ((view_at j t f).0 ∙ ap Some same) (view_at i s e).0

  -- what is known of a deque
  pub looked : (k : ℕ) (s : NamedView) → slice_get ss k ≡ Some s → look s.0 ss ≡ s.1
  looked k s e = look_at ss k s e (λ j t f same. view_apart k j s t e f same)

  -- each deque is seen
  pub view_of : (d : ℕ) → d < workers → (k : ℕ) × (s : NamedView) × (slice_get ss k ≡ Some s) × (s.0 ≡ d)
  view_of d below =
      let k = round_has workers which d round.within below in
      let t = map_from share_of ss k.0 (share claims workers d) (ap (λ l. slice_get l k.0) round.shares ∙ map_at (share claims workers) (round_of workers which) k.0 d k.1) in
      (k.0, t.0, t.1, ap (λ (p : ℕ × List ℕ). p.0) t.2)

  -- a fact of each view
  pub look_all : (P : DequeView → Type 0) → All (λ s. P s.1) ss → (d : ℕ) → d < workers → P (look d ss)
  look_all P all d below =
      let t = view_of d below in
      let at : P t.1.1 = subst (λ (o : Option NamedView). IfSome o (λ s. P s.1)) (sym (get_at ss t.0 t.1 (within ss t.0 t.1 t.2)) ∙ t.2) (all t.0 t.1 (within ss t.0 t.1 t.2)) in
      subst P (sym (looked t.0 t.1 t.2) ∙ ap (λ n. look n ss) t.3) at

  -- the deques were dealt their claims
  pub look_dealt : (d : ℕ) → d < workers → (look d ss).dealt ≡ claims_of workers d claims
  look_dealt d below =
      let t = view_of d below in
      ap (λ n. (look n ss).dealt) (sym t.3) ∙ ap (λ (v : DequeView). v.dealt) (looked t.0 t.1 t.2) ∙ (view_at t.0 t.1 t.2).1 ∙ ap (λ n. claims_of workers n claims) t.3

  -- the round stays where the shares do
  pub same_round : (ts : List NamedView) → map share_of ts ≡ map share_of ss → IsRound claims workers which ts
  same_round ts same = record { within = round.within; shares = same ∙ round.shares }

-- the number and the share of a deque, of the three that are seen of it
abbrev pub of_face : ℕ × List ℕ × Name → ℕ × List ℕ
of_face f = (f.0, f.1)

-- where the faces are the same, the shares are
pub shares_by_faces : (ss ts : List NamedView) → map face ts ≡ map face ss → map share_of ts ≡ map share_of ss
shares_by_faces ss ts same = sym (map_twice face of_face ts) ∙ ap (map of_face) same ∙ map_twice face of_face ss

-- a mark of the end changes no face
pub calm_faces : (own : Own) (others : List StealHandle) → map face (calms own others) ≡ map face (named_views own others)
calm_faces own others = λ i. face (own_named own) ∷ (map_twice handle_calm face others ∙ sym (map_twice handle_named face others)) i

-- nor what has been had
look_calm : (ss : List NamedView) (d : ℕ) → (look d (map calm ss)).got ≡ (look d ss).got
look_calm [] d = refl
look_calm (x ∷ xs) d = by_test (x.0 == d) (look_calm xs d)
  where
    by_test : (b : Bool) → (look d (map calm xs)).got ≡ (look d xs).got → (if b then (calm x).1 else look d (map calm xs)).got ≡ (if b then x.1 else look d xs).got
    by_test true later = refl
    by_test false later = later

pub look_had : (h : Hand) (d : ℕ) → (look d (calms h.own h.others.items)).got ≡ had_from h d
look_had h d = ap (λ (l : List NamedView). (look d (own_calm h.own ∷ l)).got) (sym (map_twice handle_named calm h.others.items)) ∙ look_calm (named_views_of h) d

-- where the deque is at its end, or gives a claim
pub calm_ends : (s t : NamedView) → Ends s t → calm t ≡ calm s
calm_ends s t e = λ i. (e.0.0 i, ap (λ (v : DequeView). deque_view v.holder v.deals v.dealt v.got v.marks false) e.1 i, e.0.1 i)

pub calm_gets : (s t : NamedView) (c : ℕ) → Gets s c t → Gets (calm s) c (calm t)
calm_gets s t c g = (g.0, (ap (λ (v : DequeView). deque_view v.holder v.deals v.dealt v.got v.marks false) g.1.0, g.1.1, g.1.2))

pub look_first : (s : NamedView) (ss : List NamedView) (d : ℕ) → s.0 ≡ d → look d (s ∷ ss) ≡ s.1
look_first s ss d is = ap (λ (b : Bool). if b then s.1 else look d ss) (eq-eqb s.0 d is)

-- a claim has been had
module _ (ss : List NamedView) (claim : ℕ) (ts : List NamedView) (gets : GetsOne ss claim ts) where
  pub faces_stay : map face ts ≡ map face ss
  faces_stay =
      let k = gets.0 in let s = gets.1 in let t = gets.2 in
      let same : face t ≡ face s = λ i. (gets.5.0.0 i, ap (λ (v : DequeView). v.dealt) gets.5.1.0 i, gets.5.0.1 i) in
      ap (λ l. map face l) gets.4 ∙ map_set face ss k t ∙ ap (λ p. set (map face ss) k p) same ∙ set_same (map face ss) k (face s) (map_at face ss k s gets.3)

-- the round, whether or not marks of the end have been had
pub calm_round : (claims workers : ℕ) (h : Hand) → IsOfDeal claims workers h → IsRound claims workers h.own.which (calms h.own h.others.items)
calm_round claims workers h deal = same_round claims workers h.own.which (named_views_of h) deal.round (calms h.own h.others.items) (shares_by_faces (named_views_of h) (calms h.own h.others.items) (calm_faces h.own h.others.items))

-- a hand has had a claim
pub takes_claim : (old new : Hand) (claim : ℕ) → GetsOne (calms old.own old.others.items) claim (calms new.own new.others.items) → TakesClaim old claim new
takes_claim old new claim gets claims workers deal =
    let ss = calms old.own old.others.items in let ts = calms new.own new.others.items in
    let k = gets.0 in let s = gets.1 in let t = gets.2 in let at = gets.3 in let is = gets.4 in
    let same = gets.5.0.0 in let step = gets.5.1 in
    let first = calm_round claims workers old deal in
    let dealt = (view_at claims workers old.own.which ss first k s at).1 in
    let inside = claims_in workers s.0 claims step.1.0 claim (ap (λ l. get_elem? l step.1.0) (sym dealt) ∙ step.1.1) in
    let knew : look (claim % workers) ss ≡ s.1 = ap (λ d. look d ss) inside.1 ∙ looked claims workers old.own.which ss first k s at in
    let round = same_round claims workers old.own.which ss first ts (shares_by_faces ss ts (faces_stay ss claim ts gets)) in
    let knows : look (claim % workers) ts ≡ t.1 =
    ap (λ d. look d ts) (inside.1 ∙ sym same) ∙ looked claims workers old.own.which ts round k t (ap (λ l. slice_get l k) is ∙ set_at ss k t s at) in
    let before : had_from old (claim % workers) ≡ s.1.got = sym (look_had old (claim % workers)) ∙ ap (λ (v : DequeView). v.got) knew in
    record {
      dealt = inside.0;
      above = subst (λ l. All (λ c. c < claim) l) (sym before) (all_from (λ c. c < claim) s.1.got step.2);
      taken = sym (look_had new (claim % workers)) ∙ ap (λ (v : DequeView). v.got) (knows ∙ step.0) ∙ ap (λ l. l ++ claim ∷ []) (sym before);
      others = λ d apart. sym (look_had new d) ∙ ap (λ (v : DequeView). v.got) (ap (look d) is ∙ look_else ss k s t d at same (λ e. apart (e ∙ sym inside.1))) ∙ look_had old d;
    }

-- where the own deque gave it, it is one of its claims
pub own_claim : (old : Hand) (claim : ℕ) (own : Own) → Gets (own_named old.own) claim (own_named own) → (claims workers : ℕ) → IsOfDeal claims workers old → claim % workers ≡ old.own.which
own_claim old claim own gets claims workers deal =
    let dealt = (view_at claims workers old.own.which (named_views_of old) deal.round 0 (own_named old.own) refl).1 in
    let at = gets.1.1 in
    (claims_in workers old.own.which claims at.0 claim (ap (λ l. get_elem? l at.0) (sym dealt) ∙ at.1)).1

-- where the own deque is at its end, any claim will do
pub own_ended : (old new : Hand) (r : Option ℕ) → Ends (own_named old.own) (own_named new.own) → IfSome r (λ c. ComesAfterOwn old c new)
own_ended old new (Some c) e = λ claims workers deal other. ap (λ (v : DequeView). v.ended) (look_first (own_named new.own) (map handle_named new.others.items) old.own.which e.0.0 ∙ e.1)
own_ended old new None e = tt

-- the own deque stays, and one of the others gives the claim or none does
module _ (old : Hand) (own : Own) (others : List StealHandle) (r : Option ℕ) (same : own_calm own ≡ own_calm old.own) (some : IfSome r (λ c. GetsOne (map handle_calm old.others.items) c (map handle_calm others))) where
  abbrev Gives : Option ℕ → Type 0
  Gives r = IfSome r (λ c. GetsOne (calms old.own old.others.items) c (calms own others))

  behind : (r : Option ℕ) → IfSome r (λ c. GetsOne (map handle_calm old.others.items) c (map handle_calm others)) → Gives r
  behind (Some c) g = (suc g.0, g.1, g.2, g.3, (λ i. same i ∷ g.4 i), g.5)
  behind None g = tt

  pub gives : Gives r
  gives = behind r some

  pub calms_same : IfNone r (map handle_calm others ≡ map handle_calm old.others.items) → map face (calms own others) ≡ map face (calms old.own old.others.items)
  calms_same none = by_result r gives none
    where
      by_result : (r : Option ℕ) → Gives r → IfNone r (map handle_calm others ≡ map handle_calm old.others.items) → map face (calms own others) ≡ map face (calms old.own old.others.items)
      by_result (Some c) g none = faces_stay (calms old.own old.others.items) c (calms own others) g
      by_result None g none = λ i. face (same i) ∷ map face (none i)

-- where a claim was had, the hand took it
pub takes_any : (old new : Hand) (r : Option ℕ) → IfSome r (λ c. GetsOne (calms old.own old.others.items) c (calms new.own new.others.items)) → IfSome r (λ c. TakesClaim old c new)
takes_any old new (Some c) g = takes_claim old new c g
takes_any old new None g = tt

-- The deal stays where what is known of the deques does, except the claims that were had.
module _ (old new : Hand) (same : map face (calms new.own new.others.items) ≡ map face (calms old.own old.others.items)) (out : own_out new.own ≡ own_out old.own) where
  faces : map face (named_views_of new) ≡ map face (named_views_of old)
  faces = sym (calm_faces new.own new.others.items) ∙ same ∙ calm_faces old.own old.others.items

  own_same : new.own.which ≡ old.own.which
  own_same = ap (λ l. (get_or l 0 (face (own_named old.own))).0) faces

  round_same : (claims workers : ℕ) → IsOfDeal claims workers old → IsRound claims workers new.own.which (named_views_of new)
  round_same claims workers deal =
      subst (λ d. IsRound claims workers d (named_views_of new)) (sym own_same) (same_round claims workers old.own.which (named_views_of old) deal.round (named_views_of new) (shares_by_faces (named_views_of old) (named_views_of new) faces))

  pub same_deal : SameDeal old new
  same_deal = record {
    deal = λ claims workers deal. record { round = round_same claims workers deal; lent = out ∙ deal.lent };
    deques = sym (map_twice face (λ (p : ℕ × List ℕ × Name). p.0) (named_views_of new)) ∙ ap (map (λ (p : ℕ × List ℕ × Name). p.0)) faces ∙ map_twice face (λ (p : ℕ × List ℕ × Name). p.0) (named_views_of old);
    names = sym (map_twice face (λ (p : ℕ × List ℕ × Name). let t : ℕ × Name = (p.0, p.2) in t) (named_views_of new)) ∙ ap (map (λ (p : ℕ × List ℕ × Name). let t : ℕ × Name = (p.0, p.2) in t)) faces ∙ map_twice face (λ (p : ℕ × List ℕ × Name). let t : ℕ × Name = (p.0, p.2) in t) (named_views_of old);
  }

-- where there was none, each deque is at its end
pub none_left : (old new : Hand) (r : Option ℕ) → SameDeal old new → Ends (own_named old.own) (own_named new.own) → IfNone r (All (λ s. s.1.ended ≡ true) (map handle_named new.others.items))
    → IfNone r (map handle_calm new.others.items ≡ map handle_calm old.others.items) → IfNone r (IsThrough old new)
none_left old new (Some c) stays e all none = tt
none_left old new None stays e all none = record {
  at_end = λ claims workers d deal lt. look_all claims workers new.own.which (named_views_of new) (stays.deal claims workers deal).round (λ v. v.ended ≡ true) each d lt;
  same = λ d. sym (look_had new d) ∙ ap (λ l. (look d l).got) rows ∙ look_had old d;
}
  where
    each : All (λ s. s.1.ended ≡ true) (named_views_of new)
    each zero d lt = ap (λ (v : DequeView). v.ended) e.1
    each (suc k) d lt = all k d (omega arith)

    rows : calms new.own new.others.items ≡ calms old.own old.others.items
    rows = λ i. calm_ends (own_named old.own) (own_named new.own) e i ∷ none i
