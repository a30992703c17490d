-- Configurations and members that are looked up.
use Rattle.std.proofs.Common.{◌≡◌, ℕ, zero, suc, ◌+◌, ◌<◌, List, [], ◌∷◌, ◌++◌, length, get_or, map, add-one, arith, refl, ap, ◌∙◌, sym, inl, inr, Bool, true, false, ◌&&◌, ◌||◌, ◌==◌, nat_lt, if◌then◌else◌, slice_index_or}
use Rattle.std.proofs.lemmas.Bool.{cases_lt}
use Rattle.std.proofs.lemmas.Bool.Decides.{nat_tests}
use Rattle.std.specs.Ordering.{nat_cmp}
use Rattle.std.specs.FinSet.{FinSet, contains}
use Rattle.volume_model.specs.Common.{any, each_below, some_below, listed}
use Rattle.plan.specs.declared.configurations.Configuration.{Configuration}
use Rattle.plan.specs.PlanData.{configuration_at}
use Rattle.plan.specs.Plan.{configuration_data}
use Rattle.std.proofs.lemmas.Grind.{common_steps}

or_right : (a b : Bool) → b ≡ true → (a || b) ≡ true
or_right true b h = refl
or_right false b h = h

or_left : (a b : Bool) → a ≡ true → (a || b) ≡ true
or_left a b h = ap (λ c. c || b) h

pub some_below-found : (n i : ℕ) (test : ℕ → Bool) → i < n → test i ≡ true → some_below n test ≡ true
some_below-found zero i test h is = absurd (omega arith)
some_below-found (suc n) i test h is =
    elim (cases_lt i n) [
      | inl below ↦ or_right (test n) (some_below n test) (some_below-found n i test below is)
      | inr not_below ↦ (let same : i ≡ n = omega arith in or_left (test n) (some_below n test) (ap test (sym same) ∙ is))
    ]

or_assoc : (a b c : Bool) → (a || (b || c)) ≡ ((a || b) || c)
or_assoc true b c = refl
or_assoc false b c = refl

any-append : (test : ℕ → Bool) (xs ys : List ℕ) → any test (xs ++ ys) ≡ (any test xs || any test ys)
any-append test [] ys = refl
any-append test (x ∷ xs) ys = ap (λ b. test x || b) (any-append test xs ys) ∙ or_assoc (test x) (any test xs) (any test ys)

none_yet : (x : ℕ) (b : Bool) → false ≡ (nat_lt x 0 && b)
none_yet x b = grind (arith, nat_tests)

one_more : (x n : ℕ) (p : ℕ → Bool) → p n ≡ true → ((nat_lt x n && p x) || ((n == x) || false)) ≡ (nat_lt x (suc n) && p x)
one_more x n p h = grind (arith, nat_tests)

not_more : (x n : ℕ) (p : ℕ → Bool) → p n ≡ false → ((nat_lt x n && p x) || false) ≡ (nat_lt x (suc n) && p x)
not_more x n p h = grind (arith, nat_tests)

any-listed_below : (n x : ℕ) (test : ℕ → Bool) → any (λ y. y == x) (each_below n test (λ y. y)) ≡ (nat_lt x n && test x)
any-listed_below zero x test = none_yet x (test x)
any-listed_below (suc n) x test =
    any-append (λ y. y == x) (each_below n test (λ y. y)) (if test n then n ∷ [] else [])
    ∙ ap (λ b. b || any (λ y. y == x) (if test n then n ∷ [] else [])) (any-listed_below n x test)
    ∙ elim (test n) as (λ b. test n ≡ b → ((nat_lt x n && test x) || any (λ y. y == x) (if b then n ∷ [] else [])) ≡ (nat_lt x (suc n) && test x)) [
      | true ↦ λ e. one_more x n test e
      | false ↦ λ e. not_more x n test e
    ] refl

-- a member of the list is one of the set
pub any-listed : (s : FinSet nat_cmp) (x : ℕ) → any (λ y. y == x) (listed s) ≡ (nat_lt x 64 && contains s x)
any-listed s x = any-listed_below 64 x (contains s)

-- a member that is in the set is below 64 anyhow
pub contains-below : (s : FinSet nat_cmp) (x : ℕ) → ((y : ℕ) → contains s y ≡ true → y < 64) → contains s x ≡ (nat_lt x 64 && contains s x)
contains-below s x below = grind (arith, common_steps)

-- the item at hand, seen through f
pub item-at : {A B : Type 0} (f : A → B) (xs : List A) (i : ℕ) (x : A) (d : B) → i < length xs → x ≡ get_or xs i x → slice_index_or (map f xs) i d ≡ f x
item-at f [] i x d h is = absurd (omega arith)
item-at f (y ∷ ys) zero x d h is = ap f (sym is)
item-at f (y ∷ ys) (suc i) x d h is = item-at f ys i x d (omega arith) is

pub some_below-more : (i : ℕ) (test : ℕ → Bool) → test i ≡ false → some_below i test ≡ false → some_below (i + 1) test ≡ false
some_below-more i test here before = ap (λ n. some_below n test) (add-one i) ∙ ap (λ b. b || some_below i test) here ∙ before

-- whether the configuration at hand has a member
pub named-at : (xs ys : List Configuration) (i m : ℕ) (x : Configuration) (b : Bool) → xs ≡ ys → i < length xs → x ≡ get_or xs i x → b ≡ contains x.members m → ((y : ℕ) → contains x.members y ≡ true → y < 64) → (nat_lt m 64 && contains (configuration_at (map configuration_data ys) i).members m) ≡ b
named-at xs ys i m x b same h at is below = grind (arith, common_steps)
