-- The hands of a deal are taken back: each claim was taken once.
use Rattle.std.specs.Prelude.{◌≡◌, ◌<◌, ℕ, ◌==◌, if◌then◌else◌, List, [], ◌∷◌, ◌++◌, map, length, Some, slice_get, true, ◌%◌}
use mathlib.Core.Option.{some}
use lib.ListN.{get_elem?}
use Rattle.cert_search.specs.declared.deque.DequeView.{DequeView}
use Rattle.cert_search.specs.declared.hand.Hand.{Hand}
use Rattle.cert_search.specs.declared.own.Own.{Own}
use Rattle.cert_search.specs.Deque.{both_views, Settles}
use Rattle.cert_search.specs.NamedViews.{Name, NamedView, own_named, handle_named}
use Rattle.cert_search.specs.Hands.{own_deque, had_from, IsOfDeal, ShareDeques, is_at_end}

-- all hands of a deal: hand i owns deque i, and they share the deques
pub record AreOfDeal (claims : ℕ) (hands : List Hand) : Type 0 where
  pub each : (i : ℕ) (h : Hand) → slice_get hands i ≡ Some h → IsOfDeal claims (length hands) h × (own_deque h ≡ i)
  pub shared : ShareDeques (length hands) hands

-- the hands are all hands of one deal
abbrev pub AreOfOneDeal : List Hand → Type 0
AreOfOneDeal hands = (claims : ℕ) × AreOfDeal claims hands

-- the claim is the k-th that hand i took from deque d
abbrev pub Stands : List Hand → ℕ → ℕ → ℕ → ℕ → Type 0
Stands hands i d k claim = (h : Hand) × (slice_get hands i ≡ Some h) × (d < length hands)
    × (get_elem? (had_from h d) k ≡ some claim)

-- no claim was taken by two hands, or twice by one
abbrev pub HadOnce : List Hand → Type 0
HadOnce hands = (i d k j e l claim : ℕ) → Stands hands i d k claim → Stands hands j e l claim → (i ≡ j) × (d ≡ e)
    × (k ≡ l)

-- if a hand took an end mark of a deque, each claim of that deque was taken, in any deal that the hands belong to
abbrev pub EachHad : List Hand → Type 0
EachHad hands = (claims i d claim : ℕ) (h : Hand) → AreOfDeal claims hands → slice_get hands i ≡ Some h → d
    < length hands → is_at_end h d ≡ true → claim < claims → claim % length hands ≡ d → (j : ℕ) × (k : ℕ) × Stands hands
    j d k claim

-- all claims of a deal were taken, each once; first are the hands before that
pub record AllHad (first : List Hand) : Type 0 where
  pub ended : List Hand
  pub deal : (claims : ℕ) → AreOfDeal claims first → AreOfDeal claims ended
  pub once : HadOnce ended
  pub all : (claims claim : ℕ) → AreOfDeal claims first → 0 < length first → claim < claims → (j : ℕ) × (d : ℕ)
      × (k : ℕ) × Stands ended j d k claim

-- each owner's view of its deque
abbrev pub own_views : List Own → List DequeView
own_views owns = map (λ o. (own_named o).1) owns

-- a hand's view of its own deque
abbrev pub hand_own : Hand → NamedView
hand_own h = own_named h.own

abbrev pub others_of : Hand → List NamedView
others_of h = map handle_named h.others.items

-- all views of other workers' deques, of all hands
abbrev pub all_others : List Hand → List NamedView
all_others [] = []
all_others (h ∷ hs) = others_of h ++ all_others hs

-- view v of deque d after the views of d among these were given back
abbrev pub taken_back : ℕ → DequeView → List NamedView → DequeView
taken_back d v [] = v
taken_back d v (s ∷ ss) = taken_back d (if s.0 == d then both_views v s.1 else v) ss

-- the names of the views' deques are these
abbrev pub AreTied : List Name → List NamedView → Type 0
AreTied names ss = (k : ℕ) (s : NamedView) → slice_get ss k ≡ Some s → slice_get names s.0 ≡ Some s.2

-- each view was given back to the worker that owns its deque
abbrev pub EachTaken : List Own → List NamedView → List Own → Type 0
EachTaken olds ss news = (d : ℕ) (v : DequeView) → slice_get (own_views olds) d ≡ Some v → slice_get (own_views news) d
    ≡ Some (taken_back d v ss)

-- what each owner learns from its view
abbrev pub EachSettles : List Own → Type 0
EachSettles owns = (d : ℕ) (v : DequeView) → slice_get (own_views owns) d ≡ Some v → Settles v
