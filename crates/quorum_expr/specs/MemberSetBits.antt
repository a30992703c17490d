-- A set of members is stored as a number with a bit for each member.
use Rattle.std.proofs.Common.{◌≡◌, ℕ, zero, suc, ◌+◌, ◌*◌, ◌%◌, ◌^◌, ◌<◌, ◌≤◌, arith, refl, ap, ◌∙◌, sym, Bool, true, false, ◌&&◌, ◌||◌, nat_eq, nat_lt, if◌then◌else◌}
use Rattle.std.proofs.Math.Pow.{pow_pos}
use Rattle.std.proofs.Math.Nat.{mul_comm, pow-suc}
use Rattle.std.proofs.Math.Arith.{mod-mul}
use Rattle.std.specs.Ordering.{nat_cmp}
use Rattle.std.specs.FinSet.{FinSet, insert, contains, code, contains-empty}
use Rattle.std.specs.Coded.{Coded, coded_ℕ}
use Rattle.std.specs.Int.{bit_at}
use Rattle.std.proofs.lemmas.Nat.Bits.{bit_at-lt}
use Rattle.std.proofs.lemmas.Bool.Decides.{nat_tests}
use Rattle.volume_model.proofs.Sets.{contains-put}
use Rattle.quorum_expr.specs.MemberSet.{members_below, members_of, bits_below, bits_of}

-- the order of sets, by their elements
abbrev pub set_code : Coded (FinSet nat_cmp)
set_code = code coded_ℕ

one_more : (x k : ℕ) (p : ℕ → Bool) → p k ≡ true → (nat_eq x k || (nat_lt x k && p x)) ≡ (nat_lt x (suc k) && p x)
one_more x k p h = grind (arith, nat_tests)

not_more : (x k : ℕ) (p : ℕ → Bool) → p k ≡ false → (nat_lt x k && p x) ≡ (nat_lt x (suc k) && p x)
not_more x k p h = grind (arith, nat_tests)

none_yet : (x : ℕ) (b : Bool) → false ≡ (nat_lt x 0 && b)
none_yet x b = grind (arith, nat_tests)

pub contains-members_below : (k n x : ℕ) → contains (members_below k n) x ≡ (nat_lt x k && nat_eq (bit_at n x) 1)
unfolding members_below
contains-members_below zero n x = contains-empty nat_cmp x ∙ none_yet x _
contains-members_below (suc k) n x =
    let bit : ℕ → Bool = λ y. nat_eq (bit_at n y) 1 in
    elim (nat_eq (bit_at n k) 1) as (λ b. nat_eq (bit_at n k) 1 ≡ b → contains (if b then insert (members_below k n) k
    else members_below k n) x ≡ (nat_lt x (suc k) && nat_eq (bit_at n x) 1)) [
      | true ↦ λ e. contains-put (members_below k n) k x ∙ ap (λ b. nat_eq x k || b) (contains-members_below k n x) ∙ one_more x k bit e
      | false ↦ λ e. contains-members_below k n x ∙ not_more x k bit e
    ] refl

pub contains-members_of : (n x : ℕ) → contains (members_of n) x ≡ (nat_lt x 64 && nat_eq (bit_at n x) 1)
unfolding members_of
contains-members_of n x = contains-members_below 64 n x

bit_weight : (b p : ℕ) → b < 2 → (if nat_eq b 1 then p else 0) ≡ b * p
bit_weight zero p h = omega arith
bit_weight (suc zero) p h = omega arith
bit_weight (suc (suc b)) p h = absurd (omega arith)

bits_below-members_of : (k n : ℕ) → k ≤ 64 → bits_below k (members_of n) ≡ n % 2 ^ k
unfolding bits_below
bits_below-members_of zero n h = omega arith
bits_below-members_of (suc k) n h =
    let within : (nat_lt k 64 && nat_eq (bit_at n k) 1) ≡ nat_eq (bit_at n k) 1 = grind (arith, nat_tests) in
    let bit : (if contains (members_of n) k then 2 ^ k else 0) ≡ bit_at n k * 2 ^ k =
    ap (λ (b : Bool). if b then 2 ^ k else 0) (contains-members_of n k ∙ within) ∙ bit_weight (bit_at n k) (2 ^ k)
    (bit_at-lt n k) in
    let low : bits_below k (members_of n) ≡ n % 2 ^ k = bits_below-members_of k n (omega arith) in
    (λ i. bit i + low i) ∙ sym (mod-mul n {m = 2} {c = 2 ^ k} (omega arith) (pow_pos k)) ∙ ap (λ (m : ℕ). n % m)
    (mul_comm 2 (2 ^ k) ∙ sym (pow-suc 2 k))

pub bits_of-members_of : (n : ℕ) → n < 2 ^ 64 → bits_of (members_of n) ≡ n
unfolding bits_of
bits_of-members_of n h = bits_below-members_of 64 n (omega arith) ∙ omega arith
