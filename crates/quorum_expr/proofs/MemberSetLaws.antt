-- What operations on bits do to the sets that they stand for.
use Rattle.std.proofs.Common.{◌≡◌, ◌≢◌, ℕ, zero, suc, ◌*◌, ◌%◌, ◌^◌, ◌<◌, arith, refl, ap, ◌∙◌, sym, Bool, true, false, not, ◌&&◌, ◌||◌, nat_eq, nat_lt, ◌-◌, bit_or, bit_and, min, max}
use Rattle.std.proofs.Math.Bool.{and-or_distrib_left}
use Rattle.std.specs.Ordering.{nat_cmp}
use Rattle.std.specs.FinSet.{FinSet, empty, insert, contains, difference, union, intersection, remove, contains-empty, contains-difference, contains-union, contains-intersection, contains-remove, same_set, nat_cmp-IsAntisymmetric}
use Rattle.std.specs.Cmp.{nat_cmp_total, unsigned_tied}
use Rattle.std.specs.Int.{bit_at, w64}
use Rattle.std.proofs.lemmas.Nat.Bits.{bit_at-lt, bit_at-zero, bit_at_set_same, bit_at_set_other, bit_at_not, bit_at_and, bit_at_or}
use Rattle.std.proofs.lemmas.Bool.Decides.{nat_tests}
use Rattle.volume_model.proofs.Sets.{contains-put}
use Rattle.quorum_expr.specs.MemberSet.{members_of, bits_of, numbers_below, all_members}
use Rattle.quorum_expr.specs.MemberSetBits.{contains-members_of, bits_of-members_of}
use Rattle.std.proofs.lemmas.Grind.{common_steps}

-- each member's test, from the bits
pub same_members : (s t : FinSet nat_cmp) → ((x : ℕ) → contains s x ≡ contains t x) → s ≡ t
same_members = same_set nat_cmp_total nat_cmp-IsAntisymmetric

pub contains-numbers_below : (k x : ℕ) → contains (numbers_below k) x ≡ nat_lt x k
unfolding numbers_below
contains-numbers_below zero x = contains-empty nat_cmp x ∙ grind (arith, nat_tests)
contains-numbers_below (suc k) x = contains-put (numbers_below k) k x ∙ ap (λ b. nat_eq x k || b) (contains-numbers_below k x) ∙ grind (arith, nat_tests)

pub contains-all_members : (x : ℕ) → contains all_members x ≡ nat_lt x 64
unfolding all_members
contains-all_members x = contains-numbers_below 64 x

pub members_of-zero : members_of 0 ≡ empty
members_of-zero = same_members _ _ (λ x. contains-members_of 0 x ∙ ap (λ b. nat_lt x 64 && nat_eq b 1) (bit_at-zero x) ∙ no_bit x ∙ sym (contains-empty nat_cmp x))
  where
    no_bit : (x : ℕ) → (nat_lt x 64 && false) ≡ false
    no_bit x = grind (arith, nat_tests)

set_bit : (n k x : ℕ) → k < 64 → (nat_lt x 64 && nat_eq (bit_at (bit_or n (1 * 2 ^ k % 2 ^ 64)) x) 1) ≡ (nat_eq x k || (nat_lt x 64 && nat_eq (bit_at n x) 1))
set_bit n k x h =
    elim (nat_eq x k) as (λ b. nat_eq x k ≡ b → (nat_lt x 64 && nat_eq (bit_at (bit_or n (1 * 2 ^ k % 2 ^ 64)) x) 1) ≡ (b || (nat_lt x 64 && nat_eq (bit_at n x) 1))) [
      | true ↦ grind (arith, common_steps, (bit_or n (1 * 2 ^ k % 2 ^ 64)), (bit_at_set_same w64 n k h))
      | false ↦ λ e. let is_not : x ≢ k = grind (arith, nat_tests, e) in
          ap (λ b. nat_lt x 64 && nat_eq b 1) (bit_at_set_other w64 n k h x is_not)
    ] refl

pub members_of-with : (n k : ℕ) → k < 64 → members_of (bit_or n (1 * 2 ^ k % 2 ^ 64)) ≡ insert (members_of n) k
members_of-with n k h = same_members _ _ (λ x.
    contains-members_of _ x ∙ set_bit n k x h ∙ ap (λ b. nat_eq x k || b) (sym (contains-members_of n x)) ∙ sym (contains-put (members_of n) k x))

flipped_bit : (n x : ℕ) → n < 2 ^ 64 → (nat_lt x 64 && nat_eq (bit_at (2 ^ 64 - 1 - n) x) 1) ≡ (nat_lt x 64 && not (nat_lt x 64 && nat_eq (bit_at n x) 1))
flipped_bit n x h =
    elim (nat_lt x 64) as (λ b. nat_lt x 64 ≡ b → (b && nat_eq (bit_at (2 ^ 64 - 1 - n) x) 1) ≡ (b && not (b && nat_eq (bit_at n x) 1))) [
      | true ↦ λ e. let within : x < 64 = grind (arith, nat_tests, e) in
          ap (λ b. nat_eq b 1) (bit_at_not w64 n x h within) ∙ flipped (bit_at n x) (bit_at-lt n x)
      | false ↦ λ e. refl
    ] refl
  where
    flipped : (b : ℕ) → b < 2 → nat_eq (1 - b) 1 ≡ not (nat_eq b 1)
    flipped zero h = refl
    flipped (suc zero) h = refl
    flipped (suc (suc b)) h = absurd (omega arith)

pub members_of-complement : (n : ℕ) → n < 2 ^ 64 → members_of (2 ^ 64 - 1 - n) ≡ difference all_members (members_of n)
members_of-complement n h = same_members _ _ (λ x.
    contains-members_of _ x ∙ flipped_bit n x h ∙ (λ i. sym (contains-all_members x) i && not (sym (contains-members_of n x) i)) ∙ sym (contains-difference nat_cmp_total all_members (members_of n) x))

in_range : (x : ℕ) (b : Bool) → (nat_lt x 64 && b) ≡ true → x < 64
in_range x b h = grind (arith, nat_tests)

-- each member is below 64
pub members_of-below : (n x : ℕ) → contains (members_of n) x ≡ true → x < 64
members_of-below n x h = in_range x _ (sym (contains-members_of n x) ∙ h)

both_bits : (m n : ℕ) → m < 2 → n < 2 → nat_eq (min m (1 - n)) 1 ≡ (nat_eq m 1 && not (nat_eq n 1))
both_bits zero zero h i = refl
both_bits zero (suc zero) h i = refl
both_bits (suc zero) zero h i = refl
both_bits (suc zero) (suc zero) h i = refl
both_bits (suc (suc m)) n h i = absurd (omega arith)
both_bits m (suc (suc n)) h i = absurd (omega arith)

cleared_bit : (a b x : ℕ) → b < 2 ^ 64 → (nat_lt x 64 && nat_eq (bit_at (bit_and a (2 ^ 64 - 1 - b)) x) 1) ≡ ((nat_lt x 64 && nat_eq (bit_at a x) 1) && not (nat_lt x 64 && nat_eq (bit_at b x) 1))
cleared_bit a b x h =
    elim (nat_lt x 64) as (λ c. nat_lt x 64 ≡ c → (c && nat_eq (bit_at (bit_and a (2 ^ 64 - 1 - b)) x) 1) ≡ ((c && nat_eq (bit_at a x) 1) && not (c && nat_eq (bit_at b x) 1))) [
      | true ↦ λ e. let within : x < 64 = grind (arith, nat_tests, e) in
          grind (arith, common_steps, (bit_at_and a (2 ^ 64 - 1 - b) x), (min (bit_at a x)), (bit_at_not w64 b x h within), (both_bits (bit_at a x) (bit_at b x) (bit_at-lt a x) (bit_at-lt b x)), (bit_at-lt a x))
      | false ↦ λ e. refl
    ] refl

pub members_of-difference : (a b : ℕ) → b < 2 ^ 64 → members_of (bit_and a (2 ^ 64 - 1 - b)) ≡ difference (members_of a) (members_of b)
members_of-difference a b h = same_members _ _ (λ x.
    contains-members_of _ x ∙ cleared_bit a b x h ∙ (λ i. sym (contains-members_of a x) i && not (sym (contains-members_of b x) i)) ∙ sym (contains-difference nat_cmp_total (members_of a) (members_of b) x))

either_bit : (m n : ℕ) → m < 2 → n < 2 → nat_eq (max m n) 1 ≡ (nat_eq m 1 || nat_eq n 1)
either_bit zero zero h i = refl
either_bit zero (suc zero) h i = refl
either_bit (suc zero) zero h i = refl
either_bit (suc zero) (suc zero) h i = refl
either_bit (suc (suc m)) n h i = absurd (omega arith)
either_bit m (suc (suc n)) h i = absurd (omega arith)

pub members_of-union : (a b : ℕ) → members_of (bit_or a b) ≡ union (members_of a) (members_of b)
members_of-union a b = same_members _ _ (λ x.
    contains-members_of _ x ∙ ap (λ n. nat_lt x 64 && nat_eq n 1) (bit_at_or a b x) ∙ ap (λ t. nat_lt x 64 && t) (either_bit (bit_at a x) (bit_at b x) (bit_at-lt a x) (bit_at-lt b x))
    ∙ and-or_distrib_left (nat_lt x 64) (nat_eq (bit_at a x) 1) (nat_eq (bit_at b x) 1) ∙ (λ i. sym (contains-members_of a x) i || sym (contains-members_of b x) i) ∙ sym (contains-union nat_cmp_total (members_of a) (members_of b) x))

same_bit : (m n : ℕ) → m < 2 → n < 2 → nat_eq (min m n) 1 ≡ (nat_eq m 1 && nat_eq n 1)
same_bit zero zero h i = refl
same_bit zero (suc zero) h i = refl
same_bit (suc zero) zero h i = refl
same_bit (suc zero) (suc zero) h i = refl
same_bit (suc (suc m)) n h i = absurd (omega arith)
same_bit m (suc (suc n)) h i = absurd (omega arith)

and-and : (c a b : Bool) → (c && (a && b)) ≡ ((c && a) && (c && b))
and-and true a b = refl
and-and false a b = refl

pub members_of-intersection : (a b : ℕ) → members_of (bit_and a b) ≡ intersection (members_of a) (members_of b)
members_of-intersection a b = same_members _ _ (λ x.
    contains-members_of _ x ∙ ap (λ n. nat_lt x 64 && nat_eq n 1) (bit_at_and a b x) ∙ ap (λ t. nat_lt x 64 && t) (same_bit (bit_at a x) (bit_at b x) (bit_at-lt a x) (bit_at-lt b x))
    ∙ and-and (nat_lt x 64) (nat_eq (bit_at a x) 1) (nat_eq (bit_at b x) 1) ∙ (λ i. sym (contains-members_of a x) i && sym (contains-members_of b x) i) ∙ sym (contains-intersection nat_cmp_total (members_of a) (members_of b) x))

but_not : (e c : Bool) → (c && not (e || false)) ≡ (not e && c)
but_not true true = refl
but_not true false = refl
but_not false true = refl
but_not false false = refl

-- without the set of one member it is without this member
pub difference-one : (s : FinSet nat_cmp) (k : ℕ) → difference s (insert empty k) ≡ remove s k
difference-one s k = same_members _ _ (λ x.
    contains-difference nat_cmp_total s (insert empty k) x ∙ ap (λ b. contains s x && not b) (contains-put empty k x ∙ ap (λ b. nat_eq x k || b) (contains-empty nat_cmp x))
    ∙ but_not (nat_eq x k) (contains s x) ∙ ap (λ b. not b && contains s x) (sym (unsigned_tied x k)) ∙ sym (contains-remove nat_cmp_total s k x))

pub zero-members_of : (n : ℕ) → n < 2 ^ 64 → members_of n ≡ empty → n ≡ 0
zero-members_of n h none = sym (bits_of-members_of n h) ∙ ap bits_of (none ∙ sym members_of-zero) ∙ bits_of-members_of 0 (omega arith)
