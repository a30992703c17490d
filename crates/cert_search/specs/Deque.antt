-- A deque of claims, and what each holder of a view took from it.
use Rattle.std.specs.Prelude.{◌≡◌, ℕ, zero, suc, ◌<◌, ◌≤◌, ◌-◌, if◌then◌else◌, List, [], ◌∷◌, ◌++◌, length, ◌%◌, ◌==◌, filter, ◌+◌, Bool, true, false, ◌||◌}
use Rattle.std.specs.List.{range_with_len}
use mathlib.Core.Option.{some}
use lib.ListN.{get_elem?}
use Rattle.cert_search.specs.declared.deque.DequeView.{DequeView}
use Rattle.cert_search.specs.declared.deque.Holder.{Holder}
use Rattle.cert_search.specs.declared.deque.Holder.TheVariants.{Owner, Guest, Nobody}
use Rattle.cert_search.specs.declared.deque.Task.{Task}
use Rattle.cert_search.specs.declared.deque.Task.TheVariants.{Claim, End}
use Rattle.cert_search.specs.Views.{At}

-- A holder's view: who the holder is, whether it may still deal, the claims dealt, those that it took, the number of
-- end marks, and whether it took one.
abbrev pub deque_view : Holder → Bool → List ℕ → List ℕ → ℕ → Bool → DequeView
deque_view holder deals dealt got marks ended = record {
  holder = holder;
  deals = deals;
  dealt = dealt;
  got = got;
  marks =
      marks;
  ended = ended;
}

-- the owner's view of an empty deque, with no other view lent
abbrev pub first_view : DequeView
first_view = deque_view (Owner 0) true [] [] 0 false

-- the view of another worker, which has taken nothing
abbrev pub guest_view : List ℕ → ℕ → DequeView
guest_view dealt marks = deque_view Guest false dealt [] marks false

-- a view that was given back
abbrev pub spent_view : DequeView
spent_view = deque_view Nobody false [] [] 0 false

-- one more view is lent; regain: one view was given back
abbrev pub lend : Holder → Holder
lend (Owner out) = Owner (suc out)
lend Guest = Guest
lend Nobody = Nobody

abbrev pub regain : Holder → Holder
regain (Owner zero) = Owner zero
regain (Owner (suc out)) = Owner out
regain Guest = Guest
regain Nobody = Nobody

-- the holder is the worker that owns the deque
abbrev pub is_owner : Holder → Bool
is_owner (Owner out) = true
is_owner Guest = false
is_owner Nobody = false

-- the number of lent views, if the holder is the owner
abbrev pub out_of : Holder → ℕ
out_of (Owner out) = out
out_of Guest = 0
out_of Nobody = 0

-- the claim was dealt
abbrev pub dealt_more : DequeView → ℕ → DequeView
dealt_more v claim = deque_view v.holder true (v.dealt ++ claim ∷ []) v.got v.marks v.ended

-- one more end mark was added; no more claims are dealt
abbrev pub closed : DequeView → DequeView
closed v = deque_view v.holder false v.dealt v.got (suc v.marks) v.ended

-- the holder took the claim
abbrev pub got_more : DequeView → ℕ → DequeView
got_more v claim = deque_view v.holder v.deals v.dealt (v.got ++ claim ∷ []) v.marks v.ended

-- the holder took an end mark
abbrev pub at_end : DequeView → DequeView
at_end v = deque_view v.holder v.deals v.dealt v.got v.marks true

-- a view was lent to another worker
abbrev pub lent_view : DequeView → DequeView
lent_view v = deque_view (lend v.holder) false v.dealt v.got v.marks v.ended

-- another worker's view was given back: what both took
abbrev pub both_views : DequeView → DequeView → DequeView
both_views v w = deque_view (regain v.holder) v.deals v.dealt (v.got ++ w.got) v.marks (v.ended || w.ended)

-- the claims that the holder took
abbrev pub got_of : DequeView → List ℕ
got_of v = v.got

-- a holder counts 1 until its view is given back
abbrev pub counts : Holder → ℕ
counts (Owner out) = 1
counts Guest = 1
counts Nobody = 0

abbrev pub weight : DequeView → ℕ
weight v = counts v.holder

-- the number of views that aren't given back
abbrev pub holders : List DequeView → ℕ
holders [] = 0
holders (v ∷ vs) = weight v + holders vs

-- the numbers grow
abbrev pub Rises : List ℕ → Type 0
Rises xs = (i j x y : ℕ) → i < j → get_elem? xs i ≡ some x → get_elem? xs j ≡ some y → x < y

-- n end marks
abbrev pub marks_of : ℕ → List Task
marks_of zero = []
marks_of (suc n) = End ∷ marks_of n

-- the claims that are left in the deque, and the end marks after them
abbrev pub tasks_of : List ℕ → ℕ → List Task
tasks_of [] marks = marks_of marks
tasks_of (claim ∷ left) marks = Claim claim ∷ tasks_of left marks

-- the protocol, over the claims taken from the deque, those left in it, and all views of it
pub record Keeps (gone left : List ℕ) (views : List DequeView) : Type 0 where
  -- the claims that were dealt are those taken, and then those left; their numbers grow
  pub rising : Rises (gone ++ left)
  -- each view has all claims that were dealt
  pub knows : (p : ℕ) (v : DequeView) → get_elem? views p ≡ some v → weight v ≡ 1 → v.dealt ≡ gone ++ left
  -- a holder that may still deal is the only one
  pub alone : (p : ℕ) (v : DequeView) → get_elem? views p ≡ some v → v.deals ≡ true → length views ≡ 1
  -- no claim is in two views, or twice in one
  pub once : (p i q j claim : ℕ) → At got_of views p i claim → At got_of views q j claim → (p ≡ q) × (i ≡ j)
  -- a claim in a view was taken from the deque
  pub is_gone : (p i claim : ℕ) → At got_of views p i claim → (k : ℕ) × (get_elem? gone k ≡ some claim)
  -- a claim that was taken is in a view
  pub each_had : (k claim : ℕ) → get_elem? gone k ≡ some claim → (p : ℕ) × (i : ℕ) × At got_of views p i claim
  -- if a holder took an end mark, no claim is left
  pub ends : (p : ℕ) (v : DequeView) → get_elem? views p ≡ some v → v.ended ≡ true → left ≡ []
  -- a view that was given back is empty
  pub spent : (p : ℕ) (v : DequeView) → get_elem? views p ≡ some v → weight v ≡ 0 → v.got ≡ []
  -- the owner knows the number of lent views
  pub counted : (v : DequeView) (out : ℕ) → get_elem? views 0 ≡ some v → v.holder ≡ Owner out → holders views ≡ suc out

-- the deque has no end mark while a holder may still deal
abbrev pub NoMark : ℕ → List DequeView → Type 0
NoMark marks views = (p : ℕ) (v : DequeView) → get_elem? views p ≡ some v → v.deals ≡ true → marks ≡ 0

-- the most end marks that a view can have taken: a view that was given back counts one too
abbrev pub mark_of : DequeView → ℕ
mark_of v = (if v.ended then 1 else 0) + (1 - weight v)

abbrev pub marks_had : List DequeView → ℕ
marks_had [] = 0
marks_had (v ∷ vs) = mark_of v + marks_had vs

-- no end mark is lost: all that were added are in the deque or may have been taken by a view
abbrev pub AreMarked : ℕ → List DequeView → Type 0
AreMarked marks views = (p : ℕ) (v : DequeView) → get_elem? views p ≡ some v → weight v ≡ 1 → v.marks
    ≤ marks + marks_had views

-- the protocol, with the claims taken and the number of end marks left to be found
abbrev pub IsDeque : List Task → List DequeView → Type 0
IsDeque tasks views = (gone : List ℕ) × (left : List ℕ) × (marks : ℕ) × (tasks ≡ tasks_of left marks) × NoMark marks
    views × Keeps gone left views × AreMarked marks views

-- the holder took the claim, which was dealt here and is above all that it took from this deque before
abbrev pub GetsClaim : DequeView → ℕ → DequeView → Type 0
GetsClaim v claim w = (w ≡ got_more v claim) × ((k : ℕ) × (get_elem? v.dealt k ≡ some claim))
    × ((i x : ℕ) → get_elem? v.got i ≡ some x → x < claim)

-- the holder took the one claim or end mark that left the deque
abbrev pub Took : DequeView → List Task → DequeView → Type 0
Took v [] w = ⊥
Took v (Claim x ∷ []) w = GetsClaim v x w
Took v (End ∷ []) w = w ≡ at_end v
Took v (x ∷ y ∷ ys) w = ⊥

-- the one claim that was added to the deque was dealt
abbrev pub Adds : DequeView → List Task → DequeView → Type 0
Adds v [] w = ⊥
Adds v (Claim x ∷ []) w = w ≡ dealt_more v x
Adds v (End ∷ []) w = ⊥
Adds v (x ∷ y ∷ ys) w = ⊥

-- the claims below n that are dealt to deque `which`, in order
abbrev pub claims_of : ℕ → ℕ → ℕ → List ℕ
claims_of workers which n = filter (λ c. c % workers == which) (range_with_len 0 n)

-- what the owner learns from its view
pub record Settles (v : DequeView) : Type 0 where
  -- no claim is in it twice
  pub once : (i j claim : ℕ) → get_elem? v.got i ≡ some claim → get_elem? v.got j ≡ some claim → i ≡ j
  -- each claim was dealt here
  pub dealt : (i claim : ℕ) → get_elem? v.got i ≡ some claim → (k : ℕ) × (get_elem? v.dealt k ≡ some claim)
  -- if no other view is lent and a holder took an end mark, each claim that was dealt here is in it
  pub all_had : v.holder ≡ Owner 0 → v.ended ≡ true → (k claim : ℕ) → get_elem? v.dealt k ≡ some claim → (i : ℕ)
      × (get_elem? v.got i ≡ some claim)
