-- Numbers that are marked one after the other.
use Rattle.std.proofs.Common.{◌≡◌, ℕ, zero, suc, ◌+◌, ◌<◌, List, [], ◌∷◌, length, get_or, set, drop, map, arith, refl, ap, ◌∙◌, sym, add-one, drop-cons, replicate, Bool, true, false, not, ◌&&◌, ◌||◌, ◌==◌}
use Rattle.std.specs.List.{list_any}
use Rattle.std.proofs.lemmas.Bool.Decides.{nat_tests}
use Rattle.quorum_checker.specs.FirstFault.{good_places}
use Rattle.std.proofs.lemmas.Grind.{common_steps}

-- none of these is marked
abbrev pub unmarked : List Bool → List ℕ → Bool
unmarked seen cs = not (list_any (λ d. get_or seen d false) cs)

-- what is left to be tested
abbrev pub rest_good : ℕ → List Bool → List ℕ → Bool
rest_good n seen cs = good_places n cs && unmarked seen cs

-- ---- at first nothing is marked

blank : (n d : ℕ) → get_or (replicate n false) d false ≡ false
blank zero d = refl
blank (suc n) zero = refl
blank (suc n) (suc d) = blank n d

none_marked : (n : ℕ) (cs : List ℕ) → unmarked (replicate n false) cs ≡ true
none_marked n [] = refl
none_marked n (c ∷ cs) = ap (λ b. not (b || list_any (λ d. get_or (replicate n false) d false) cs)) (blank n c) ∙ none_marked n cs

and_true : (a b : Bool) → b ≡ true → (a && b) ≡ a
and_true true b h = h
and_true false b h = refl

pub begun : (m n : ℕ) (cs : List ℕ) → rest_good m (replicate n false) cs ≡ good_places m cs
begun m n cs = and_true (good_places m cs) (unmarked (replicate n false) cs) (none_marked n cs)

-- ---- one more is marked

next_place : (c d : ℕ) → (suc d == suc c) ≡ (d == c)
next_place c d = grind (arith, nat_tests)

later : (d : ℕ) → (suc d == 0) ≡ false
later d = grind (arith, nat_tests)

sooner : (c : ℕ) → (0 == suc c) ≡ false
sooner c = grind (arith, nat_tests)

marked_at : (seen : List Bool) (c d : ℕ) → c < length seen → get_or (set seen c true) d false ≡ ((d == c) || get_or seen d false)
marked_at [] c d h = absurd (omega arith)
marked_at (b ∷ seen) zero zero h = refl
marked_at (b ∷ seen) zero (suc d) h = ap (λ x. x || get_or seen d false) (sym (later d))
marked_at (b ∷ seen) (suc c) zero h = ap (λ x. x || b) (sym (sooner c))
marked_at (b ∷ seen) (suc c) (suc d) h = marked_at seen c d (omega arith) ∙ ap (λ x. x || get_or seen d false) (sym (next_place c d))

either : (a b p q : Bool) → (not ((a || b) || (p || q))) ≡ (not (a || p) && not (b || q))
either true b p q = refl
either false true true q = refl
either false true false true = refl
either false true false false = refl
either false false true q = refl
either false false false q = refl

unmarked_more : (seen : List Bool) (c : ℕ) (cs : List ℕ) → c < length seen → unmarked (set seen c true) cs ≡ (not (list_any (λ d. d == c) cs) && unmarked seen cs)
unmarked_more seen c [] h = refl
unmarked_more seen c (d ∷ cs) h = grind (arith, common_steps, not, marked_at, either, Bool, (unmarked_more seen c cs h))

shuffle : (lt new good seen fresh : Bool) → lt ≡ true → seen ≡ false → ((lt && (new && good)) && not (seen || fresh)) ≡ (good && (new && not fresh))
shuffle true true true false fresh h e = refl
shuffle true true false false fresh h e = refl
shuffle true false true false fresh h e = refl
shuffle true false false false fresh h e = refl
shuffle lt new good true fresh h e = absurd (cc)
shuffle false new good false fresh h e = absurd (cc)

-- the first of those left is good and not marked
pub marked : (n c : ℕ) (seen : List Bool) (cs : List ℕ) → c < n → get_or seen c false ≡ false → c < length seen → rest_good n seen (c ∷ cs) ≡ rest_good n (set seen c true) cs
marked n c seen cs below new room = grind (arith, common_steps, shuffle, not, nat_tests, unmarked_more)

-- ---- one place after the other, seen through f

pub next_left : (xs : List ℕ) (i : ℕ) → i < length xs → drop i xs ≡ get_or xs i 0 ∷ drop (i + 1) xs
next_left xs i h = drop-cons xs i 0 h ∙ ap (λ n. get_or xs i 0 ∷ drop n xs) (sym (add-one i))

first_left : {P : Type 0} (f : P → ℕ) (xs : List P) (i : ℕ) (d : P) → i < length xs → map f (drop i xs) ≡ f (get_or xs i d) ∷ map f (drop (i + 1) xs)
first_left f xs i d h = ap (map f) (drop-cons xs i d h) ∙ ap (λ n. f (get_or xs i d) ∷ map f (drop n xs)) (sym (add-one i))

-- the place at hand is good
pub good_turn : (xs : List ℕ) (n i a : ℕ) (seen : List Bool) (whole : Bool) → i < length xs → a ≡ get_or xs i 0 → a < n → get_or seen a false ≡ false → a < length seen → rest_good n seen (drop i xs) ≡ whole → rest_good n (set seen a true) (drop (i + 1) xs) ≡ whole
good_turn xs n i a seen whole h is below new room before = grind (arith, common_steps, marked, rest_good, next_left)

pub good_turn_by : {P : Type 0} (f : P → ℕ) (xs : List P) (n i a : ℕ) (d : P) (seen : List Bool) (whole : Bool) → i < length xs → a ≡ f (get_or xs i d) → a < n → get_or seen a false ≡ false → a < length seen → rest_good n seen (map f (drop i xs)) ≡ whole → rest_good n (set seen a true) (map f (drop (i + 1) xs)) ≡ whole
good_turn_by f xs n i a d seen whole h is below new room before =
    sym (marked n a seen (map f (drop (i + 1) xs)) below new room) ∙ ap (rest_good n seen) (ap (λ b. b ∷ map f (drop (i + 1) xs)) is ∙ sym (first_left f xs i d h)) ∙ before
