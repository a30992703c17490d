-- A view of a deque, with the deque's number and name.
use Rattle.std.specs.Prelude.{◌≡◌, ◌<◌, ℕ, ◌+◌, ◌-◌, ◌%◌, ◌==◌, if◌then◌else◌, List, [], ◌∷◌, map, false, Option, Some, None, slice_get, slice_set}
use Rattle.std.specs.List.{range_with_len}
use Rattle.std.specs.declared.alloc.Global.{Global}
use Rattle.crossbeam_deque.specs.Handles.{view, worker_view, worker_deque, stealer_deque}
use Rattle.cert_search.specs.declared.deque.DequeView.{DequeView}
use Rattle.cert_search.specs.declared.own.Own.{Own}
use Rattle.cert_search.specs.declared.steal_handle.StealHandle.{StealHandle}
use Rattle.cert_search.specs.Deque.{deque_view, guest_view, at_end, GetsClaim, claims_of}

-- the identity of a deque: two handles of one deque have the same name
abbrev pub Name : Type 0
Name = (ℕ × ℕ) × Global

-- the number of a deque, a view of it, and its name
abbrev pub NamedView : Type 0
NamedView = ℕ × DequeView × Name

-- the owner's view of its deque
abbrev pub own_named : Own → NamedView
own_named o = (o.which, worker_view o.deque, worker_deque o.deque)

-- a worker's view of another worker's deque
abbrev pub handle_named : StealHandle → NamedView
handle_named r = (r.which, view r.pass, stealer_deque r.stealer)

-- both views are of the same deque, under the same number
abbrev pub SameDeque : NamedView → NamedView → Type 0
SameDeque s t = (t.0 ≡ s.0) × (t.2 ≡ s.2)

-- an end mark was taken from this deque
abbrev pub Ends : NamedView → NamedView → Type 0
Ends s t = SameDeque s t × (t.1 ≡ at_end s.1)

-- the claim was taken from this deque
abbrev pub Gets : NamedView → ℕ → NamedView → Type 0
Gets s claim t = SameDeque s t × GetsClaim s.1 claim t.1

-- the same without whether an end mark was taken
abbrev pub calm : NamedView → NamedView
calm s = (s.0, deque_view s.1.holder s.1.deals s.1.dealt s.1.got s.1.marks false, s.2)

-- the owner's view of its deque, without whether an end mark was taken
abbrev pub own_calm : Own → NamedView
own_calm o = calm (own_named o)

abbrev pub handle_calm : StealHandle → NamedView
handle_calm r = calm (handle_named r)

-- the claim was taken from one of the deques, and the other views are unchanged
abbrev pub GetsOne : List NamedView → ℕ → List NamedView → Type 0
GetsOne ss claim ts = (k : ℕ) × (s : NamedView) × (t : NamedView) × (slice_get ss k ≡ Some s) × (ts ≡ slice_set ss k t)
    × Gets s claim t

-- the view of deque d; an empty one if there is none
abbrev pub look : ℕ → List NamedView → DequeView
look d [] = guest_view [] 0
look d (s ∷ ss) = if s.0 == d then s.1 else look d ss

-- the name of deque d
abbrev pub name_at : ℕ → List (ℕ × Name) → Option Name
name_at d [] = None
name_at d (p ∷ ps) = if p.0 == d then Some p.1 else name_at d ps

-- a worker's views of all deques, in the order in which it tries them
abbrev pub named_views : Own → List StealHandle → List NamedView
named_views own others = own_named own ∷ map handle_named others

-- the same without whether end marks were taken
abbrev pub calms : Own → List StealHandle → List NamedView
calms own others = own_calm own ∷ map handle_calm others

-- the number of a deque, and the claims that were dealt to it
abbrev pub share_of : NamedView → ℕ × List ℕ
share_of s = (s.0, s.1.dealt)

-- deque d with its claims
abbrev pub share : ℕ → ℕ → ℕ → ℕ × List ℕ
share claims workers d = (d, claims_of workers d claims)

-- the number of a deque, the claims that were dealt to it, and its name
abbrev pub face : NamedView → ℕ × List ℕ × Name
face s = (s.0, s.1.dealt, s.2)

-- the order in which a worker tries the deques: its own, then the others, beginning after it and going round
abbrev pub round_of : ℕ → ℕ → List ℕ
round_of workers which = which ∷ map (λ k. (which + k) % workers) (range_with_len 1 (workers - 1))

-- a worker of the deal has a view of each deque, and its claims were dealt to each
pub record IsRound (claims workers which : ℕ) (ss : List NamedView) : Type 0 where
  pub within : which < workers
  pub shares : map share_of ss ≡ map (share claims workers) (round_of workers which)
