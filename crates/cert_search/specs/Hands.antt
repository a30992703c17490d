-- Views of a hand for contracts.
use Rattle.std.specs.Prelude.{◌≡◌, ◌≢◌, ◌<◌, ℕ, ◌-◌, ◌%◌, List, [], ◌∷◌, ◌++◌, map, All, Bool, true, Option, Some, IsSome, Vec, slice_get}
use Rattle.std.specs.List.{range_with_len}
use Rattle.std.specs.declared.alloc.Global.{Global}
use Rattle.cert_search.specs.declared.deque.DequeView.{DequeView}
use Rattle.cert_search.specs.declared.hand.Hand.{Hand}
use Rattle.cert_search.specs.declared.own.Own.{Own}
use Rattle.cert_search.specs.declared.steal_handle.StealHandle.{StealHandle}
use Rattle.cert_search.specs.Deque.{claims_of}
use Rattle.cert_search.specs.NamedViews.{Name, NamedView, named_views, look, name_at, round_of, IsRound}
use Rattle.cert_search.specs.Dealing.{Plain, plain_of, own_plain, own_out, row_plain, fresh, fresh_row}

-- the number of the hand's own deque
abbrev pub own_deque : Hand → ℕ
own_deque h = h.own.which

-- the hand's views of the deques, in the order in which it tries them
abbrev pub named_views_of : Hand → List NamedView
named_views_of h = named_views h.own h.others.items

-- the deques of the hand, in the order in which it tries them
abbrev pub deques_of : Hand → List ℕ
deques_of h = map (λ s. s.0) (named_views_of h)

-- the hand's view of deque d
abbrev pub known_of : Hand → ℕ → DequeView
known_of h d = look d (named_views_of h)

-- the claims that were dealt to deque d
abbrev pub dealt_to : Hand → ℕ → List ℕ
dealt_to h d = (known_of h d).dealt

-- the claims that the hand took from deque d, in order
abbrev pub had_from : Hand → ℕ → List ℕ
had_from h d = (known_of h d).got

-- the number of end marks in deque d, which follow all its claims
abbrev pub marks_dealt : Hand → ℕ → ℕ
marks_dealt h d = (known_of h d).marks

-- whether the hand took an end mark of deque d, which follows all its claims
abbrev pub is_at_end : Hand → ℕ → Bool
is_at_end h d = (known_of h d).ended

-- the deques of the hand with their names
abbrev pub names_of : Hand → List (ℕ × Name)
names_of h = map (λ s. (s.0, s.2)) (named_views_of h)

-- the name of the hand's deque d
abbrev pub deque_at : Hand → ℕ → Option Name
deque_at h d = name_at d (names_of h)

-- the hand has deque d exactly once
abbrev pub ReachesOnce : Hand → ℕ → Type 0
ReachesOnce h d = (k : ℕ) × (slice_get (deques_of h) k ≡ Some d) × ((j : ℕ) → slice_get (deques_of h) j ≡ Some d → j
    ≡ k)

-- the hand of worker i after the deal
pub record IsDealt (claims workers i : ℕ) (h : Hand) : Type 0 where
  -- its own deque is deque i
  pub own_is : own_deque h ≡ i
  -- it tries its own deque first, then the others, beginning after i and going round
  pub round : deques_of h ≡ round_of workers i
  -- it has each deque exactly once
  pub each_once : (d : ℕ) → d < workers → ReachesOnce h d
  -- the claims dealt to deque d are those with remainder d, in growing order
  pub dealt : (d : ℕ) → d < workers → dealt_to h d ≡ claims_of workers d claims
  -- an end mark for each worker follows them
  pub marked : (d : ℕ) → d < workers → marks_dealt h d ≡ workers
  -- the hand has taken no claim yet
  pub none_had : (d : ℕ) → had_from h d ≡ []

-- hand i is that of worker i
abbrev pub AreDealt : ℕ → ℕ → List Hand → Type 0
AreDealt claims workers hands = (i : ℕ) (h : Hand) → slice_get hands i ≡ Some h → IsDealt claims workers i h

-- deque d of both hands is the same deque
pub record SharesDeque (d : ℕ) (h g : Hand) : Type 0 where
  pub same : deque_at h d ≡ deque_at g d
  pub some : IsSome (deque_at h d)

-- any two hands have the same deques
abbrev pub ShareDeques : ℕ → List Hand → Type 0
ShareDeques workers hands = (i j d : ℕ) (h g : Hand) → slice_get hands i ≡ Some h → slice_get hands j ≡ Some g → d
    < workers → SharesDeque d h g

-- The hand belongs to a deal of this many claims to this many workers: it has each deque, each deque was dealt its
-- claims, and each other worker has a view of the hand's own deque.
pub record IsOfDeal (claims workers : ℕ) (h : Hand) : Type 0 where
  pub round : IsRound claims workers (own_deque h) (named_views_of h)
  pub lent : own_out h.own ≡ workers - 1

-- the hand of such a deal took the claim, from the deque of the claim's remainder
pub record HasTaken (claims workers : ℕ) (old : Hand) (claim : ℕ) (new : Hand) : Type 0 where
  pub dealt : claim < claims
  -- the claim is above all that the hand took from that deque before
  pub above : All (λ c. c < claim) (had_from old (claim % workers))
  -- the hand took exactly this claim from that deque
  pub taken : had_from new (claim % workers) ≡ had_from old (claim % workers) ++ claim ∷ []
  -- the hand took nothing from the other deques
  pub others : (d : ℕ) → d ≢ claim % workers → had_from new d ≡ had_from old d

-- the hand took the claim, in any deal that it belongs to
abbrev pub TakesClaim : Hand → ℕ → Hand → Type 0
TakesClaim old claim new = (claims workers : ℕ) → IsOfDeal claims workers old → HasTaken claims workers old claim new

-- the hand took an end mark of each deque, and no claim, in any deal that it belongs to
pub record IsThrough (old new : Hand) : Type 0 where
  pub at_end : (claims workers d : ℕ) → IsOfDeal claims workers old → d < workers → is_at_end new d ≡ true
  pub same : (d : ℕ) → had_from new d ≡ had_from old d

-- a claim of another worker's deque is taken only after the hand took an end mark of its own deque
abbrev pub ComesAfterOwn : Hand → ℕ → Hand → Type 0
ComesAfterOwn old claim new = (claims workers : ℕ) → IsOfDeal claims workers old → claim % workers ≢ own_deque old
    → is_at_end new (own_deque old) ≡ true

-- the hand belongs to the same deals, and has the same deques
pub record SameDeal (old new : Hand) : Type 0 where
  pub deal : (claims workers : ℕ) → IsOfDeal claims workers old → IsOfDeal claims workers new
  pub deques : deques_of new ≡ deques_of old
  pub names : names_of new ≡ names_of old

-- the hand belongs to the same deals, and took an end mark of each deque
pub record HasEnded (old new : Hand) : Type 0 where
  pub deal : SameDeal old new
  pub at_end : (claims workers d : ℕ) → IsOfDeal claims workers old → d < workers → is_at_end new d ≡ true

-- the number of lent views of the hand's own deque, and its views of the deques in short
abbrev pub hand_plain : Hand → ℕ × List Plain
hand_plain h = (own_out h.own, map plain_of (named_views_of h))

-- the same for hands that are made of own deques and rows of views
abbrev pub hands_from : List Own → List (Vec StealHandle Global) → List (ℕ × List Plain)
hands_from [] rows = []
hands_from (own ∷ owns) [] = []
hands_from (own ∷ owns) (row ∷ rows) = (own_out own, own_plain own ∷ row_plain row.items) ∷ hands_from owns rows

-- the hand of worker i, which has taken no claim
abbrev pub fresh_hand : List Name → ℕ → ℕ → ℕ → ℕ × List Plain
fresh_hand names claims workers i = (workers - 1, fresh names claims workers i ∷ fresh_row names claims workers i)

-- the hands of all workers, in order
abbrev pub AreHands : List Name → ℕ → ℕ → List Hand → Type 0
AreHands names claims workers hands = map hand_plain hands ≡ map (fresh_hand names claims workers)
    (range_with_len 0 workers)
