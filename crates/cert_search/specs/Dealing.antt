-- The deques while claims are dealt.
use Rattle.std.specs.Prelude.{◌≡◌, ◌≢◌, ◌<◌, suc, ℕ, ◌+◌, ◌-◌, ◌%◌, List, [], map, length, true, false, Option, Some, Vec, slice_get}
use Rattle.std.specs.List.{range_with_len}
use Rattle.std.specs.declared.alloc.Global.{Global}
use Rattle.cert_search.specs.declared.deque.DequeView.{DequeView}
use Rattle.cert_search.specs.declared.deque.Holder.TheVariants.{Owner}
use Rattle.cert_search.specs.declared.own.Own.{Own}
use Rattle.cert_search.specs.declared.steal_handle.StealHandle.{StealHandle}
use Rattle.cert_search.specs.Deque.{deque_view, claims_of, out_of}
use Rattle.cert_search.specs.NamedViews.{Name, NamedView, own_named, handle_named}

-- the number of a worker's deque, and the owner's view of it
abbrev pub own_view : Own → ℕ × DequeView
own_view o = ((own_named o).0, (own_named o).1)

-- deque d after the claims below n were dealt; more may come
abbrev pub open_deque : ℕ → ℕ → ℕ → ℕ × DequeView
open_deque workers n d = (d, deque_view (Owner 0) true (claims_of workers d n) [] 0 false)

-- the claims below n were dealt to the deques; more may come
abbrev pub IsFilledTo : ℕ → ℕ → List Own → Type 0
IsFilledTo workers n owns = map own_view owns ≡ map (open_deque workers n) (range_with_len 0 workers)

-- the number of a deque, the claims dealt to it, the claims taken from it, its name, and the number of end marks in it
abbrev pub Plain : Type 0
Plain = ℕ × List ℕ × List ℕ × Option Name × ℕ

abbrev pub plain_of : NamedView → Plain
plain_of s = (s.0, s.1.dealt, s.1.got, Some s.2, s.1.marks)

-- deque d with its claims and an end mark for each worker, of which none was taken; names has the names of all deques
abbrev pub fresh : List Name → ℕ → ℕ → ℕ → Plain
fresh names claims workers d = (d, claims_of workers d claims, [], slice_get names d, workers)

-- the owner's view of its deque, in short
abbrev pub own_plain : Own → Plain
own_plain o = plain_of (own_named o)

-- the number of views of a worker's deque that are lent
abbrev pub own_out : Own → ℕ
own_out o = out_of (own_named o).1.holder

-- with n more end marks
abbrev pub with_marks : ℕ → Plain → Plain
with_marks n p = (p.0, p.1, p.2, p.3, n + p.4)

-- n end marks were added to the deque, and nothing else changed
abbrev pub GetsMarks : ℕ → Own → Own → Type 0
GetsMarks n old new = (own_plain new ≡ with_marks n (own_plain old)) × (own_out new ≡ own_out old)

-- the same for each deque
pub record EachGetsMarks (n : ℕ) (olds news : List Own) : Type 0 where
  pub as_many : length news ≡ length olds
  pub each : (d : ℕ) (old new : Own) → slice_get olds d ≡ Some old → slice_get news d ≡ Some new → GetsMarks n old new

-- the number of lent views of each deque
abbrev pub outs : List Own → List ℕ
outs owns = map own_out owns

-- n views of each deque are lent
abbrev pub AreOut : ℕ → ℕ → List Own → Type 0
AreOut workers n owns = (d : ℕ) → d < workers → slice_get (outs owns) d ≡ Some n

-- one more view of each deque but `which` is lent
pub record LendsOthers (workers which : ℕ) (old new : List Own) : Type 0 where
  pub lent : (d n : ℕ) → d < workers → d ≢ which → slice_get (outs old) d ≡ Some n → slice_get (outs new) d
      ≡ Some (suc n)
  pub kept : slice_get (outs new) which ≡ slice_get (outs old) which

-- the name of a worker's deque
abbrev pub own_name : Own → Name
own_name o = (own_named o).2

-- the names of all deques
abbrev pub names_in : List Own → List Name
names_in owns = map own_name owns

-- each deque has its claims and an end mark for each worker, and none was taken
abbrev pub IsFilled : ℕ → ℕ → List Own → Type 0
IsFilled claims workers owns = map own_plain owns ≡ map (fresh (names_in owns) claims workers)
    (range_with_len 0 workers)

-- a worker's views of other deques, in short
abbrev pub row_plain : List StealHandle → List Plain
row_plain rs = map (λ r. plain_of (handle_named r)) rs

-- the deques of n workers, beginning after `which` and going round
abbrev pub fresh_part : List Name → ℕ → ℕ → ℕ → ℕ → List Plain
fresh_part names claims workers which n = map (λ k. fresh names claims workers ((which + k) % workers))
    (range_with_len 1 n)

-- the deques of all others, beginning after `which` and going round
abbrev pub fresh_row : List Name → ℕ → ℕ → ℕ → List Plain
fresh_row names claims workers which = fresh_part names claims workers which (workers - 1)

-- the first n workers each have views of all other deques
abbrev pub AreRows : List Name → ℕ → ℕ → ℕ → List (List Plain) → Type 0
AreRows names claims workers n rows = rows ≡ map (fresh_row names claims workers) (range_with_len 0 n)

-- once the deques are filled with any number of claims, the views are of all others, beginning after `which` and going
-- round
abbrev pub IsRow : ℕ → List Own → ℕ → List StealHandle → Type 0
IsRow workers owns which row = (claims : ℕ) → IsFilled claims workers owns → row_plain row ≡ fresh_row (names_in owns)
    claims workers which

-- the same for each worker
abbrev pub EachRow : ℕ → List Own → List (Vec StealHandle Global) → Type 0
EachRow workers owns rows = (claims : ℕ) → IsFilled claims workers owns → AreRows (names_in owns) claims workers workers
    (map (λ row. row_plain row.items) rows)

-- the deques are the same in short
abbrev pub SameDeques : List Own → List Own → Type 0
SameDeques old new = map own_plain new ≡ map own_plain old
