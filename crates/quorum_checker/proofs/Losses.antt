-- Losses of members: how large they are, and what they leave.
use Rattle.std.proofs.Common.{◌≡◌, ◌∙◌, ℕ, zero, suc, ◌+◌, ◌-◌, ◌<◌, ◌≤◌, Bool, true, false, List, [], ◌∷◌, refl, sym, ap, subst, inl, inr, arith, length, not, take, drop, ◌&&◌, ◌||◌, nat_eq, nat_lt, get_or, if◌then◌else◌, Option, Some, None, IfSome, length-append}
use Rattle.std.proofs.lemmas.Bool.Decides.{nat_tests}
use Rattle.std.specs.Ordering.{nat_cmp}
use Rattle.std.specs.Cmp.{nat_cmp_total}
use Rattle.std.specs.FinSet.{FinSet, empty, insert, contains, difference, contains-empty, contains-difference}
use Rattle.volume_model.specs.Common.{Formula, Members, sat, HasCounts, IsIn, each_below}
use Rattle.volume_model.proofs.Sets.{contains-put}
use Rattle.volume_model.proofs.FormulaLaws.{sat-some}
use Rattle.quorum_checker.specs.Cases.{AreSmall}
use Rattle.quorum_checker.specs.Tolerance.{all_of, count_of, taken, takes, left_of, left_by, IsLoss, IsLeastAfter, IsLeastLoss}
use Rattle.quorum_checker.proofs.Split.{parts}
use Rattle.quorum_checker.proofs.Apart.{in_listed, listed_small}
use Rattle.std.proofs.lemmas.Grind.{common_steps}
use Rattle.std.proofs.Common.{rules}

-- ---- how large

abbrev bit : Bool → ℕ
bit b = if b then 1 else 0

abbrev pub nobody : FinSet nat_cmp
nobody = empty

length_one : (b : Bool) (n : ℕ) → length (if b then n ∷ [] else []) ≡ (if b then 1 else 0)
length_one true n = refl
length_one false n = refl

listed_more : (n : ℕ) (p : ℕ → Bool) → length (each_below (suc n) p (λ x. x)) ≡ length (each_below n p (λ x. x)) + (if p n then 1 else 0)
listed_more n p = length-append (each_below n p (λ x. x)) (if p n then n ∷ [] else []) ∙ ap (λ m. length (each_below n p (λ x. x)) + m) (length_one (p n) n)

at_most_one : (b : Bool) → (if b then 1 else 0) ≤ 1
at_most_one true = omega arith
at_most_one false = omega arith

listed_few : (n : ℕ) (p : ℕ → Bool) → length (each_below n p (λ x. x)) ≤ n
listed_few zero p = omega arith
listed_few (suc n) p = omega (arith, listed_more n p, listed_few n p, at_most_one (p n))

-- one member more
grown : (n k : ℕ) (p q : ℕ → Bool) → ((x : ℕ) → q x ≡ (nat_eq x k || p x)) → length (each_below n q (λ x. x)) ≤ length (each_below n p (λ x. x)) + (if nat_lt k n then 1 else 0)
grown zero k p q h = omega arith
grown (suc n) k p q h = grind (arith, common_steps, nat_eq, bit, nat_tests, listed_more, at_most_one, (grown n k p q h))

pub count_put : (s : FinSet nat_cmp) (k : ℕ) → count_of (insert s k) ≤ count_of s + 1
unfolding count_of
count_put s k = omega (arith, grown 64 k (contains s) (contains (insert s k)) (contains-put s k), at_most_one (nat_lt k 64))

pub count_few : (s : FinSet nat_cmp) → count_of s ≤ 64
unfolding count_of
count_few s = listed_few 64 (contains s)

none_listed : (n : ℕ) (p : ℕ → Bool) → ((x : ℕ) → p x ≡ false) → length (each_below n p (λ x. x)) ≡ 0
none_listed zero p none = refl
none_listed (suc n) p none = omega (arith, listed_more n p, none_listed n p none, ap bit (none n))

pub count_empty : count_of nobody ≡ 0
unfolding count_of
count_empty = none_listed 64 (contains nobody) (contains-empty nat_cmp)

pub all_count : (s : FinSet nat_cmp) → length (all_of s) ≡ count_of s
unfolding all_of count_of
all_count s = refl

-- ---- what a loss leaves

same_sat : (f : Formula) (s t : Members) → ((x : ℕ) → s x ≡ t x) → sat f s ≡ sat f t
same_sat f s t h = λ i. sat f (λ x. h x i)

shuffle : (m g e t : Bool) → ((m && not (e || g)) && not t) ≡ ((m && not g) && not ((e && true) || t))
shuffle false g e t = refl
shuffle true true true t = refl
shuffle true true false t = refl
shuffle true false true t = refl
shuffle true false false t = refl

pub taken_one : (f : Formula) (members gone : FinSet nat_cmp) (x : ℕ) (xs : List ℕ) (loss : Members) → loss x ≡ true → sat f (left_of loss xs (difference members (insert gone x))) ≡ true → sat f (left_of loss (x ∷ xs) (difference members gone)) ≡ true
taken_one f members gone x xs loss is h =
    sym (same_sat f (left_of loss xs (difference members (insert gone x))) (left_of loss (x ∷ xs) (difference members gone)) (λ y.
    ap (λ a. a && not (takes loss xs y)) (contains-difference nat_cmp_total members (insert gone x) y ∙ ap (λ b. contains members y && not b) (contains-put gone x y))
    ∙ shuffle (contains members y) (contains gone y) (nat_eq y x) (takes loss xs y)
    ∙ (λ i. sym (contains-difference nat_cmp_total members gone y) i && not ((nat_eq y x && sym is i) || takes loss xs y)))) ∙ h

pub left_one : (f : Formula) (left : FinSet nat_cmp) (x : ℕ) (xs : List ℕ) (loss : Members) → loss x ≡ false → sat f (left_of loss xs left) ≡ true → sat f (left_of loss (x ∷ xs) left) ≡ true
left_one f left x xs loss is h = grind (arith, common_steps)

-- the smaller of what is found with and without a member
pub joined : (f : Formula) (members gone more : FinSet nat_cmp) (x : ℕ) (xs : List ℕ) (n best first size : ℕ) → more ≡ insert gone x → IsLeastAfter f (difference members more) xs (n + 1) best first → IsLeastAfter f (difference members gone) xs n first size → IsLeastAfter f (difference members gone) (x ∷ xs) n best size
joined f members gone more x xs n best first size is one other = grind (arith, common_steps, taken_one, left_one)

pub joined_of : (f : Formula) (members gone more : FinSet nat_cmp) (ms : List ℕ) (n m best first size : ℕ) → 1 ≤ length ms → more ≡ insert gone (get_or ms 0 0) → m ≡ n + 1 → IsLeastAfter f (difference members more) (take (length ms - 1) (drop 1 ms)) m best first → IsLeastAfter f (difference members gone) (take (length ms - 1) (drop 1 ms)) n first size → IsLeastAfter f (difference members gone) ms n best size
joined_of f members gone more ms n m best first size some is next one other =
    subst (λ xs. IsLeastAfter f (difference members gone) xs n best size) (sym (parts ms some))
    (joined f members gone more (get_or ms 0 0) (take (length ms - 1) (drop 1 ms)) n best first size is (subst (λ k. IsLeastAfter f (difference members more) (take (length ms - 1) (drop 1 ms)) k best first) next one) other)

pub if_some : {A : Type 0} {P Q : A → Type 0} (o : Option A) → ((x : A) → P x → Q x) → IfSome o P → IfSome o Q
if_some None h p = tt
if_some (Some x) h p = h x p

-- ---- the whole walk

itself : (a : Bool) → false ≡ (a && not a)
itself true = refl
itself false = refl

-- all members are a loss that stops
pub all_lost : (f : Formula) (members : FinSet nat_cmp) (size : ℕ) → sat f (contains nobody) ≡ false → size ≡ count_of members → IsLoss f members members size
all_lost f members size none is = record {
  stops = sym (same_sat f (contains nobody) (contains (difference members members)) (λ y. contains-empty nat_cmp y ∙ itself (contains members y) ∙ sym (contains-difference nat_cmp_total members members y))) ∙ none;
  sized = omega (arith, is);
}

or_true : (p : Bool) → (p || true) ≡ true
or_true true = refl
or_true false = refl

takes_in : (loss : Members) (xs : List ℕ) (y : ℕ) → IsIn y xs → loss y ≡ true → takes loss xs y ≡ true
takes_in loss [] y h is = absurd h
takes_in loss (x ∷ xs) y h is = elim h [
  | inl same ↦ ap (λ b. b || takes loss xs y) (let e : nat_eq y x ≡ true = grind (arith, nat_tests, same) in (λ i. e i && loss (sym same i)) ∙ is)
  | inr later ↦ ap (λ b. (nat_eq y x && loss x) || b) (takes_in loss xs y later is) ∙ or_true (nat_eq y x && loss x)
]

takes_not : (loss : Members) (xs : List ℕ) (y : ℕ) → loss y ≡ false → takes loss xs y ≡ false
takes_not loss [] y is = refl
takes_not loss (x ∷ xs) y is =
    elim (nat_eq y x) as (λ b. nat_eq y x ≡ b → ((b && loss x) || takes loss xs y) ≡ false) [
      | true ↦ λ e. let same : y ≡ x = grind (arith, nat_tests, e) in ap (λ b. b || takes loss xs y) (ap loss (sym same) ∙ is) ∙ takes_not loss xs y is
      | false ↦ λ e. takes_not loss xs y is
    ] refl

takes_member : (loss : Members) (members : FinSet nat_cmp) (below : (x : ℕ) → contains members x ≡ true → x < 64) (y : ℕ) → (contains members y && not (takes loss (all_of members) y)) ≡ (contains members y && not (loss y))
unfolding all_of
takes_member loss members below y = search (rules, not, takes_in, in_listed, takes_not)

nothing_gone : (a : Bool) → (a && not false) ≡ a
nothing_gone true = refl
nothing_gone false = refl

pub least_of : (f : Formula) (members none lost : FinSet nat_cmp) (rest : List ℕ) (start best size : ℕ) → ((x : ℕ) → contains members x ≡ true → x < 64) → none ≡ nobody → rest ≡ all_of members → start ≡ 0 → IsLoss f members lost size → IsLeastAfter f (difference members none) rest start best size → IsLeastLoss f members lost
least_of f members none lost rest start best size below nobody are zero_is loss least = record {
  stops = loss.stops;
  least = λ s h.
      let few : start + taken s rest < size = let e : taken s rest ≡ taken s (all_of members) = ap (taken s) are in omega (arith, h, loss.sized, e, zero_is) in
      sym (same_sat f (left_of s rest (difference members none)) (left_by s members) (λ y.
      (λ i. contains (difference members (nobody i)) y && not (takes s (are i) y))
      ∙ ap (λ a. a && not (takes s (all_of members) y)) (contains-difference nat_cmp_total members empty y ∙ ap (λ b. contains members y && not b) (contains-empty nat_cmp y) ∙ nothing_gone (contains members y))
      ∙ takes_member s members below y)) ∙ least.least s few;
}

-- a valid formula isn't satisfied by nobody
pub none_satisfies : (f : Formula) → HasCounts f → sat f (contains nobody) ≡ true → ⊥
none_satisfies f counts h = let some = sat-some f (contains nobody) counts h in never (contains-empty nat_cmp some.0) some.1
  where
    never : {b : Bool} → b ≡ false → b ≡ true → ⊥
    never {b} e i = cc

-- ---- the members of which each one stops it

pub all_small : (s : FinSet nat_cmp) → AreSmall (all_of s)
unfolding all_of
all_small s = listed_small s

more_below : (x m : ℕ) (p : ℕ → Bool) → p m ≡ true → (nat_eq x m || (nat_lt x m && p x)) ≡ (nat_lt x (m + 1) && p x)
more_below x m p h = grind (arith, nat_tests)

same_below : (x m : ℕ) (p : ℕ → Bool) → p m ≡ false → (nat_lt x m && p x) ≡ (nat_lt x (m + 1) && p x)
same_below x m p h = grind (arith, nat_tests)

pub put_one : (s t : FinSet nat_cmp) (m : ℕ) (p : ℕ → Bool) → t ≡ insert s m → ((x : ℕ) → contains s x ≡ (nat_lt x m && p x)) → p m ≡ true → (x : ℕ) → contains t x ≡ (nat_lt x (m + 1) && p x)
put_one s t m p is so here x = ap (λ u. contains u x) is ∙ contains-put s m x ∙ ap (λ b. nat_eq x m || b) (so x) ∙ more_below x m p here

pub put_none : (s : FinSet nat_cmp) (m : ℕ) (p : ℕ → Bool) → ((x : ℕ) → contains s x ≡ (nat_lt x m && p x)) → p m ≡ false → (x : ℕ) → contains s x ≡ (nat_lt x (m + 1) && p x)
put_none s m p so here x = so x ∙ same_below x m p here

none_below : (x : ℕ) (b : Bool) → false ≡ (nat_lt x 0 && b)
none_below x b = grind (arith, nat_tests)

pub put_start : (s : FinSet nat_cmp) (p : ℕ → Bool) → s ≡ nobody → (x : ℕ) → contains s x ≡ (nat_lt x 0 && p x)
put_start s p is x = ap (λ t. contains t x) is ∙ contains-empty nat_cmp x ∙ none_below x (p x)
