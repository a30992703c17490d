-- The cases of members refute a claim, or leave two sets that satisfy both sides.
use Rattle.std.proofs.Common.{◌≡◌, ◌∙◌, ℕ, zero, suc, ◌+◌, ◌*◌, ◌^◌, ◌≤◌, Bool, true, false, List, [], ◌∷◌, refl, ap, subst, inl, inr, arith, length, lit≤, ◌⊎◌, ◌&&◌, max, nat_lt, nat_eq, if◌then◌else◌, lt-ltb}
use Rattle.std.proofs.Math.Nat.{pow-suc}
use Rattle.std.specs.Ordering.{nat_cmp}
use Rattle.std.specs.FinSet.{FinSet, contains, insert}
use Rattle.std.proofs.lemmas.Bool.Decides.{nat_tests}
use Rattle.volume_model.specs.Common.{Formula, sat, IsIn}
use Rattle.volume_model.proofs.Sets.{contains-put}
use Rattle.refutation.specs.Common.{Rule, dead, split, depth_of, nodes_of, keeps_lists}
use Rattle.refutation.specs.declared.Side.TheVariants.{Left, Right}
use Rattle.quorum_checker.specs.Refutes.{Refutes}
use Rattle.quorum_checker.specs.Cases.{Cases, refuted, apart, present, ends, both, cases, state_of, AreSmall}
use Rattle.std.proofs.lemmas.Grind.{common_steps}

-- ---- what they find refutes

ends_in : (P : Rule → Type 0) (f g : Formula) (a b : FinSet nat_cmp) (rest : Cases) (rule : Rule) → (sat f (present a) ≡ false → P (dead Left 0)) → (sat g (present b) ≡ false → P (dead Right 0)) → (rest ≡ refuted rule → P rule) → ends f g a b rest ≡ refuted rule → P rule
ends_in P f g a b rest rule left right after e =
    elim (sat f (present a)) as (λ p. sat f (present a) ≡ p → (if p then (if sat g (present b) then rest else refuted (dead Right 0)) else refuted (dead Left 0)) ≡ refuted rule → P rule) [
      | false ↦ λ none e'. let is : dead Left 0 ≡ rule = cc in subst P is (left none)
      | true ↦ λ _. elim (sat g (present b)) as (λ q. sat g (present b) ≡ q → (if q then rest else refuted (dead Right 0)) ≡ refuted rule → P rule) [
        | false ↦ λ none e'. let is : dead Right 0 ≡ rule = cc in subst P is (right none)
        | true ↦ λ _ e'. after e'
      ] refl
    ] refl e

both_in : (x : ℕ) (l r : Cases) (rule : Rule) → both x l r ≡ refuted rule → (s t : Rule) × (l ≡ refuted s) × (r ≡ refuted t) × (split x s t ≡ rule)
both_in x (apart a b) r rule e = absurd cc
both_in x (refuted s) (apart a b) rule e = absurd cc
both_in x (refuted s) (refuted t) rule e = (s, t, refl, refl, cc)

pub refutes : (ms : List ℕ) (f g : Formula) (a b : FinSet nat_cmp) (rule : Rule) → cases ms f g a b ≡ refuted rule → Refutes rule (state_of f g a b)
unfolding cases
refutes [] f g a b rule e = grind (arith, common_steps)
refutes (x ∷ xs) f g a b rule e =
    ends_in (λ r. Refutes r (state_of f g a b)) f g a b (both x (cases xs f g (insert a x) b) (cases xs f g a (insert b x))) rule (λ none. (f, refl, none)) (λ none. (g, refl, none)) (λ h.
    let parts = both_in x (cases xs f g (insert a x) b) (cases xs f g a (insert b x)) rule h in
    subst (λ y. Refutes y (state_of f g a b)) parts.4 (refutes xs f g (insert a x) b parts.0 parts.2, refutes xs f g a (insert b x) parts.1 parts.3)) e

-- ---- how large it is

pub record IsWithin (n : ℕ) (rule : Rule) : Type 0 where
  pub levels : depth_of rule ≤ n + 1
  pub lists : keeps_lists rule ≡ true
  pub size : nodes_of rule + 1 ≤ 2 ^ (n + 1)

more_levels : (l r n : ℕ) → l ≤ n + 1 → r ≤ n + 1 → 1 + max l r ≤ suc n + 1
more_levels l r n h i = grind (arith, nat_tests)

all_so : (p q r : Bool) → p ≡ true → q ≡ true → r ≡ true → (p && (q && r)) ≡ true
all_so true true true a b c = refl
all_so false q r a b c = absurd cc
all_so true false r a b c = absurd cc
all_so true true false a b c = absurd cc

power : (n : ℕ) → 2 ^ (suc n + 1) ≡ 2 ^ (n + 1) * 2
power n = let one : suc n + 1 ≡ suc (n + 1) = omega arith in ap (λ m. 2 ^ m) one ∙ pow-suc 2 (n + 1)

more_nodes : (l r n : ℕ) → l + 1 ≤ 2 ^ (n + 1) → r + 1 ≤ 2 ^ (n + 1) → 1 + l + r + 1 ≤ 2 ^ (suc n + 1)
more_nodes l r n h i = omega (arith, power n)

some_nodes : (n : ℕ) → 1 + 1 ≤ 2 ^ (n + 1)
some_nodes zero = lit≤ tt
some_nodes (suc n) = omega (arith, power n, some_nodes n)

leaf : (side_is : Rule) (n : ℕ) → depth_of side_is ≡ 1 → keeps_lists side_is ≡ true → nodes_of side_is ≡ 1 → IsWithin n side_is
leaf rule n one fine single = record { levels = omega (arith, one); lists = fine; size = omega (arith, single, some_nodes n) }

pub within : (ms : List ℕ) (f g : Formula) (a b : FinSet nat_cmp) (rule : Rule) → AreSmall ms → cases ms f g a b ≡ refuted rule → IsWithin (length ms) rule
unfolding cases
within [] f g a b rule small e = grind (arith, common_steps)
within (x ∷ xs) f g a b rule small e =
    ends_in (IsWithin (suc (length xs))) f g a b (both x (cases xs f g (insert a x) b) (cases xs f g a (insert b x))) rule (λ _. leaf (dead Left 0) (suc (length xs)) refl refl refl) (λ _. leaf (dead Right 0) (suc (length xs)) refl refl refl) (λ h.
    let parts = both_in x (cases xs f g (insert a x) b) (cases xs f g a (insert b x)) rule h in
    let l = within xs f g (insert a x) b parts.0 small.1 parts.2 in
    let r = within xs f g a (insert b x) parts.1 small.1 parts.3 in
    subst (IsWithin (suc (length xs))) parts.4 (record {
      levels = more_levels (depth_of parts.0) (depth_of parts.1) (length xs) l.levels r.levels;
      lists = all_so (nat_lt x 64) (keeps_lists parts.0) (keeps_lists parts.1) (lt-ltb x 64 small.0) l.lists r.lists;
      size = more_nodes (nodes_of parts.0) (nodes_of parts.1) (length xs) l.size r.size;
    })) e

-- ---- where they find nothing, two sets are left

pub record AreLeft (ms : List ℕ) (f g : Formula) (a b p q : FinSet nat_cmp) : Type 0 where
  pub more_left : (x : ℕ) → contains a x ≡ true → contains p x ≡ true
  pub more_right : (x : ℕ) → contains b x ≡ true → contains q x ≡ true
  pub satisfies_left : sat f (present p) ≡ true
  pub satisfies_right : sat g (present q) ≡ true
  pub covered : (x : ℕ) → IsIn x ms → (contains p x ≡ true) ⊎ (contains q x ≡ true)

ends_apart : (P : FinSet nat_cmp → FinSet nat_cmp → Type 0) (f g : Formula) (a b p q : FinSet nat_cmp) (rest : Cases) → (sat f (present a) ≡ true → sat g (present b) ≡ true → rest ≡ apart p q → P p q) → ends f g a b rest ≡ apart p q → P p q
ends_apart P f g a b p q rest after e =
    elim (sat f (present a)) as (λ d. sat f (present a) ≡ d → (if d then (if sat g (present b) then rest else refuted (dead Right 0)) else refuted (dead Left 0)) ≡ apart p q → P p q) [
      | false ↦ λ none e'. absurd cc
      | true ↦ λ held. elim (sat g (present b)) as (λ d. sat g (present b) ≡ d → (if d then rest else refuted (dead Right 0)) ≡ apart p q → P p q) [
        | false ↦ λ none e'. absurd cc
        | true ↦ λ too e'. after held too e'
      ] refl
    ] refl e

both_apart : (x : ℕ) (l r : Cases) (p q : FinSet nat_cmp) → both x l r ≡ apart p q → (l ≡ apart p q) ⊎ (r ≡ apart p q)
both_apart x (apart a b) r p q e = inl e
both_apart x (refuted s) (apart a b) p q e = inr e
both_apart x (refuted s) (refuted t) p q e = absurd cc

in_inserted : (s : FinSet nat_cmp) (k x : ℕ) → contains s x ≡ true → contains (insert s k) x ≡ true
in_inserted s k x h = grind (arith, common_steps, contains-put, nat_eq, Bool)

is_inserted : (s : FinSet nat_cmp) (k x : ℕ) → x ≡ k → contains (insert s k) x ≡ true
is_inserted s k x h = grind (arith, common_steps, contains-put, nat_eq, nat_tests, Bool)

pub leaves : (ms : List ℕ) (f g : Formula) (a b p q : FinSet nat_cmp) → cases ms f g a b ≡ apart p q → AreLeft ms f g a b p q
unfolding cases
leaves [] f g a b p q e = grind (arith, common_steps)
leaves (x ∷ xs) f g a b p q e =
    ends_apart (AreLeft (x ∷ xs) f g a b) f g a b p q (both x (cases xs f g (insert a x) b) (cases xs f g a (insert b x))) (λ held too is.
    elim (both_apart x (cases xs f g (insert a x) b) (cases xs f g a (insert b x)) p q is) [
      | inl found ↦
          let w = leaves xs f g (insert a x) b p q found in
          grind (arith, common_steps, in_inserted, is_inserted)
      | inr found ↦
          let w = leaves xs f g a (insert b x) p q found in
          grind (arith, common_steps, in_inserted, is_inserted)
    ]) e
