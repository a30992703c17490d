-- How many different keys an object has, counted one member after another.
use Rattle.std.proofs.Common.{◌≡◌, ℕ, suc, ◌+◌, ◌<◌, ◌≤◌, List, [], ◌∷◌, ◌++◌, length, take, Bool, true, false, bytes_eq, Option, Some, None, is_some, Ordering, Less, Equal, Greater, nat_cmp, Bor, refl, sym, ap, ◌∙◌, subst, arith, min}
use Rattle.std.specs.Prelude.{⊤, ◌||◌, slice_set}
use Rattle.std.proofs.lemmas.Cmp.{nat_list_cmp_total}
use Rattle.std.proofs.lemmas.Slice.Eq.{bytes_eq-Decides}
use Rattle.std.specs.Cmp.Lexicographic.{slice_cmp}
use Rattle.std.specs.Ordering.{match_ordering, ordering_reverse}
use Rattle.json.specs.Token.{Token}
use Rattle.json.specs.Json as json
use Rattle.json.specs.Find.{InMembers, NextMember}
use Rattle.serde_json.specs.Data.{Data, Members, no_members, member, put}
use Rattle.serde_json.specs.Events.{members_len}
use Rattle.serde_json.specs.Find.{get_member}
use Rattle.serde_json.specs.Read.{of_json, of_members}
use Rattle.serde_json.proofs.Views.{get_member-put, get_member-put_other}
use Rattle.quorum_expr.specs.Placed.{among}
use Rattle.quorum_expr.proofs.Converted.{then}
use Rattle.std.proofs.lemmas.Grind.{common_steps}

abbrev pub Cmp : List ℕ → List ℕ → Ordering
Cmp k l = slice_cmp nat_cmp k l

-- the first key is above l
abbrev pub IsAbove : List ℕ → Members → Type 0
IsAbove l no_members = ⊤
IsAbove l (member m e ms) = Cmp l m ≡ Less

abbrev pub IsAscending : Members → Type 0
IsAscending no_members = ⊤
IsAscending (member l e ms) = IsAbove l ms × IsAscending ms

pub turned : (k l : List ℕ) → Cmp k l ≡ Greater → Cmp l k ≡ Less
turned k l h = nat_list_cmp_total.antisymm l k ∙ ap ordering_reverse h

above_at : (o : Ordering) (l k m : List ℕ) (d e : Data) (ms rest : Members) → Cmp l k ≡ Less → Cmp l m ≡ Less → IsAbove l (match_ordering o (member k d (member m e ms)) (member m d ms) (member m e rest))
above_at Less l k m d e ms rest h i = h
above_at Equal l k m d e ms rest h i = i
above_at Greater l k m d e ms rest h i = i

above_put : (l k : List ℕ) (d : Data) (ms : Members) → Cmp l k ≡ Less → IsAbove l ms → IsAbove l (put k d ms)
above_put l k d no_members h i = h
above_put l k d (member m e ms) h i = above_at (Cmp k m) l k m d e ms (put k d ms) h i

ascending_at : (o : Ordering) (k l : List ℕ) (d e : Data) (ms rest : Members) → Cmp k l ≡ o → IsAscending (member l e ms) → (Cmp l k ≡ Less → IsAbove l rest) → IsAscending rest → IsAscending (match_ordering o (member k d (member l e ms)) (member l d ms) (member l e rest))
ascending_at Less k l d e ms rest is h above more = (is, h)
ascending_at Equal k l d e ms rest is h above more = h
ascending_at Greater k l d e ms rest is h above more = (above (turned k l is), more)

pub ascending_put : (k : List ℕ) (d : Data) (ms : Members) → IsAscending ms → IsAscending (put k d ms)
ascending_put k d no_members h = (tt, tt)
ascending_put k d (member l e ms) h = ascending_at (Cmp k l) k l d e ms (put k d ms) refl h (λ less. above_put l k d ms less h.0) (ascending_put k d ms h.1)

-- ---- how many there are

pub skipped : (o : Ordering) (a b : Option Data) → o ≡ Less → match_ordering o a b a ≡ a
skipped o a b h = ap (λ p. match_ordering p a b a) h

pub not_below : (k l : List ℕ) (ms : Members) → Cmp k l ≡ Less → IsAbove l ms → IsAscending ms → get_member k ms ≡ None
not_below k l no_members h above up = refl
not_below k l (member m e ms) h above up =
    let less : Cmp k m ≡ Less = nat_list_cmp_total.trans k l m h above in
    skipped (Cmp k m) (get_member k ms) (Some e) less ∙ not_below k m ms less up.0 up.1

new_at : (o : Ordering) (k l : List ℕ) (d e : Data) (ms rest : Members) (found : Option Data) → match_ordering o found (Some e) found ≡ None → (found ≡ None → members_len rest ≡ suc (members_len ms)) → members_len (match_ordering o (member k d (member l e ms)) (member l d ms) (member l e rest)) ≡ suc (suc (members_len ms))
new_at Less k l d e ms rest found h more = refl
new_at Equal k l d e ms rest found h more = absurd (cc)
new_at Greater k l d e ms rest found h more = ap suc (more h)

len_new : (k : List ℕ) (d : Data) (ms : Members) → get_member k ms ≡ None → members_len (put k d ms) ≡ suc (members_len ms)
len_new k d no_members h = refl
len_new k d (member l e ms) h = new_at (Cmp k l) k l d e ms (put k d ms) (get_member k ms) h (len_new k d ms)

old_at : (o : Ordering) (k l : List ℕ) (d e : Data) (ms rest : Members) (found : Option Data) → is_some (match_ordering o found (Some e) found) ≡ true → (o ≡ Less → found ≡ None) → (is_some found ≡ true → members_len rest ≡ members_len ms) → members_len (match_ordering o (member k d (member l e ms)) (member l d ms) (member l e rest)) ≡ suc (members_len ms)
old_at Less k l d e ms rest found h none more = let no : found ≡ None = none refl in let never : ◌≡◌ {A = Bool} false true = sym (ap is_some no) ∙ h in absurd (cc)
old_at Equal k l d e ms rest found h none more = refl
old_at Greater k l d e ms rest found h none more = ap suc (more h)

len_old : (k : List ℕ) (d : Data) (ms : Members) → IsAscending ms → is_some (get_member k ms) ≡ true → members_len (put k d ms) ≡ members_len ms
len_old k d no_members up h = absurd (cc)
len_old k d (member l e ms) up h = old_at (Cmp k l) k l d e ms (put k d ms) (get_member k ms) h (λ less. not_below k l ms less up.0 up.1) (len_old k d ms up.1)

grown_at : (o : Ordering) (k l : List ℕ) (d e : Data) (ms rest : Members) → members_len ms ≤ members_len rest → suc (members_len ms) ≤ members_len (match_ordering o (member k d (member l e ms)) (member l d ms) (member l e rest))
grown_at Less k l d e ms rest h = omega arith
grown_at Equal k l d e ms rest h = omega arith
grown_at Greater k l d e ms rest h = omega (arith, h)

grown : (k : List ℕ) (d : Data) (ms : Members) → members_len ms ≤ members_len (put k d ms)
grown k d no_members = omega arith
grown k d (member l e ms) = grown_at (Cmp k l) k l d e ms (put k d ms) (grown k d ms)

all_grown : (ms : json.Members) (found all : Members) → of_members ms found ≡ Some all → members_len found ≤ members_len all
all_grown json.no_members found all h = let same : found ≡ all = cc in subst (λ x. members_len found ≤ members_len x) same (omega arith)
all_grown (json.member k j ms) found all h =
    let x = then (λ d. of_members ms (put k d found)) (of_json j) all h in
    omega (arith, grown k x.0 found, all_grown ms (put k x.0 found) all x.2)

-- ---- which there are

or_true : (b : Bool) → (b || true) ≡ true
or_true true = refl
or_true false = refl

or_false : (b : Bool) → (b || false) ≡ b
or_false true = refl
or_false false = refl

or_more : (a b c : Bool) → ((a || b) || c) ≡ (a || (b || c))
or_more true b c = refl
or_more false b c = refl

among_push : (k : List ℕ) (xs : List (Bor (List ℕ))) (y : Bor (List ℕ)) → among k (xs ++ y ∷ []) ≡ (among k xs || bytes_eq y.now k)
among_push k [] y = or_false (bytes_eq y.now k)
among_push k (x ∷ xs) y = ap (λ b. bytes_eq x.now k || b) (among_push k xs y) ∙ sym (or_more (bytes_eq x.now k) (among k xs) (bytes_eq y.now k))

has_at : (key k : List ℕ) (d : Data) (found : Members) (b : Bool) → bytes_eq key k ≡ b → is_some (get_member k (put key d found)) ≡ (is_some (get_member k found) || b)
has_at key k d found true e = grind (arith, common_steps, bytes_eq-Decides, is_some, get_member-put, or_true)
has_at key k d found false e = grind (arith, common_steps, is_some, get_member-put_other, bytes_eq, bytes_eq-Decides, Bool, or_false)

had_at : (key k : List ℕ) (found : Members) (b : Bool) → bytes_eq key k ≡ b → is_some (get_member key found) ≡ true → (is_some (get_member k found) || b) ≡ is_some (get_member k found)
had_at key k found true e had = grind (arith, common_steps, bytes_eq-Decides, or_true, is_some)
had_at key k found false e had = or_false (is_some (get_member k found))

-- ---- the count

-- Of all members those that are found have so many keys, which are these, and the others are still to come.
pub record Counts (all : Members) (ts : List Token) (seen : List (Bor (List ℕ))) (count : ℕ) : Type 0 where
  pub rest : json.Members
  pub found : Members
  pub inside : InMembers ts rest
  pub ends : of_members rest found ≡ Some all
  pub up : IsAscending found
  pub many : members_len found ≡ count
  pub has : (k : List ℕ) → among k seen ≡ is_some (get_member k found)

pub record Next (all : Members) (new : List Token) (key : List ℕ) (seen : List (Bor (List ℕ))) (count : ℕ) (found : Members) : Type 0 where
  pub rest : json.Members
  pub d : Data
  pub inside : InMembers new rest
  pub ends : of_members rest (put key d found) ≡ Some all

next_of : (all : Members) (old new : List Token) (key : List ℕ) (at : List Token) (seen : List (Bor (List ℕ))) (count : ℕ) (x : Counts all old seen count) → NextMember old (Some (key, at)) new → Next all new key seen count x.found
next_of all old new key at seen count x next =
    let m = next x.rest x.inside in
    let is : of_members (json.member key m.0 m.1) x.found ≡ Some all = ap (λ ms. of_members ms x.found) (sym m.2) ∙ x.ends in
    let y = then (λ d. of_members m.1 (put key d x.found)) (of_json m.0) all is in
    record { rest = m.1; d = y.0; inside = m.4; ends = y.2 }

-- a key that was there
pub counts_same : (all : Members) (old new : List Token) (key : List ℕ) (at : List Token) (seen : List (Bor (List ℕ))) (count : ℕ) → NextMember old (Some (key, at)) new → among key seen ≡ true → Counts all old seen count → Counts all new seen count
counts_same all old new key at seen count next there x =
    let y = next_of all old new key at seen count x next in
    grind (arith, common_steps, ascending_put, len_old, has_at, bytes_eq, had_at)

none_there : (o : Option Data) → is_some o ≡ false → o ≡ None
none_there None h = refl
none_there (Some d) h = absurd (cc)

-- and one that wasn't
pub counts_more : (all : Members) (old new : List Token) (key : Bor (List ℕ)) (at : List Token) (seen : List (Bor (List ℕ))) (count : ℕ) → count < length seen → NextMember old (Some (key.now, at)) new → among key.now (take count seen) ≡ false → Counts all old (take count seen) count → Counts all new (take (count + 1) (slice_set seen count key)) (count + 1)
counts_more all old new key at seen count room next absent x =
    let y = next_of all old new key.now at (take count seen) count x next in
    let never : get_member key.now x.found ≡ None = none_there (get_member key.now x.found) (sym (x.has key.now) ∙ absent) in
    let longer : members_len (put key.now y.d x.found) ≡ suc (members_len x.found) = len_new key.now y.d x.found never in
    grind (arith, common_steps, ascending_put, among_push, bytes_eq, has_at)

pub counts_enough : (all : Members) (ts : List Token) (seen : List (Bor (List ℕ))) (count most : ℕ) → most ≤ count → count ≤ most → Counts all ts seen count → count ≡ min (members_len all) most
counts_enough all ts seen count most h i x = grind (arith, common_steps, all_grown)

pub counts_all : (all : Members) (ts new : List Token) (seen : List (Bor (List ℕ))) (count most : ℕ) → count < most → NextMember ts None new → Counts all ts seen count → count ≡ min (members_len all) most
counts_all all ts new seen count most h next x =
    let none : x.rest ≡ json.no_members = next x.rest x.inside in
    let same : x.found ≡ all = cc in
    let many : members_len all ≡ count = sym (ap members_len same) ∙ x.many in
    omega (arith, many, h)
