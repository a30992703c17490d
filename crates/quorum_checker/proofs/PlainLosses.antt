-- What a threshold over different members that weigh one each survives.
use Rattle.std.proofs.Common.{◌≡◌, ◌∙◌, ℕ, zero, suc, ◌+◌, ◌<◌, ◌≤◌, Bool, true, false, List, [], ◌∷◌, ◌++◌, refl, sym, ap, arith, length, not, ◌&&◌, ◌||◌, nat_eq, nat_lt, nat_le, if◌then◌else◌}
use Rattle.std.proofs.lemmas.Bool.Decides.{nat_tests}
use Rattle.std.specs.Ordering.{nat_cmp}
use Rattle.std.specs.FinSet.{FinSet, empty, insert, contains, difference, contains-empty}
use Rattle.volume_model.specs.Common.{Formula, Children, Members, at_least, no_child, child, formulas, sat, weight_held, each_below, listed}
use Rattle.volume_model.specs.Formula.{member}
use Rattle.volume_model.proofs.Sets.{contains-put}
use Rattle.quorum_checker.specs.PlainChildren.{are_plain}
use Rattle.quorum_checker.specs.Tolerance.{all_of, count_of, left_by, taken, IsLeastLoss}
use Rattle.std.proofs.lemmas.Grind.{common_steps}

abbrev bit : Bool → ℕ
bit b = if b then 1 else 0

-- ---- how many of a set a loss takes

taken-append : (loss : Members) (xs ys : List ℕ) → taken loss (xs ++ ys) ≡ taken loss xs + taken loss ys
taken-append loss [] ys = omega arith
taken-append loss (x ∷ xs) ys = omega (arith, taken-append loss xs ys)

taken_one : (loss : Members) (b : Bool) (n : ℕ) → taken loss (if b then n ∷ [] else []) ≡ (if b then bit (loss n) else 0)
taken_one loss true n = omega arith
taken_one loss false n = refl

taken_more : (loss : Members) (n : ℕ) (p : ℕ → Bool) → taken loss (each_below (suc n) p (λ x. x)) ≡ taken loss (each_below n p (λ x. x)) + (if p n then bit (loss n) else 0)
taken_more loss n p = taken-append loss (each_below n p (λ x. x)) (if p n then n ∷ [] else []) ∙ ap (λ m. taken loss (each_below n p (λ x. x)) + m) (taken_one loss (p n) n)

-- one member more
put_taken : (loss : Members) (n k : ℕ) (p q : ℕ → Bool) → ((x : ℕ) → q x ≡ (nat_eq x k || p x)) → p k ≡ false → taken loss (each_below n q (λ x. x)) ≡ taken loss (each_below n p (λ x. x)) + (if nat_lt k n then bit (loss k) else 0)
put_taken loss zero k p q h new = grind (arith, common_steps)
put_taken loss (suc n) k p q h new =
    elim (nat_eq n k) as (λ b. nat_eq n k ≡ b → taken loss (each_below (suc n) q (λ x. x)) ≡ taken loss (each_below (suc n) p (λ x. x)) + (if nat_lt k (suc n) then bit (loss k) else 0)) [
      | true ↦ grind (arith, common_steps, nat_tests, bit, taken_more, (put_taken loss n k p q h new))
      | false ↦ grind (arith, common_steps, nat_tests, bit, taken_more, (put_taken loss n k p q h new))
    ] refl

some_or_none : (b c : Bool) (n : ℕ) → (b ≡ true → c ≡ true) → (if b then n else 0) ≤ (if c then n else 0)
some_or_none true true n h = omega arith
some_or_none true false n h = grind (arith, common_steps)
some_or_none false c n h = omega arith

-- a set of more members
taken_within : (loss : Members) (n : ℕ) (p q : ℕ → Bool) → ((x : ℕ) → p x ≡ true → q x ≡ true) → taken loss (each_below n p (λ x. x)) ≤ taken loss (each_below n q (λ x. x))
taken_within loss zero p q h = omega arith
taken_within loss (suc n) p q h = omega (arith, taken_more loss n p, taken_more loss n q, taken_within loss n p q h, some_or_none (p n) (q n) (bit (loss n)) (h n))

-- ---- plain children

-- one child more
pub plain_step : (fs rest : Children) (w x : ℕ) (f : Formula) (own seen more : FinSet nat_cmp) → fs ≡ child w f rest → f ≡ member x → w ≡ 1 → contains own x ≡ true → contains seen x ≡ false → more ≡ insert seen x → are_plain rest own more ≡ are_plain fs own seen
plain_step fs rest w x f own seen more is one weighs of_own new put = grind (arith, common_steps)

-- how many of the children hold in a loss
abbrev counted : Children → Members → ℕ
counted no_child loss = 0
counted (child w f fs) loss = bit (sat f loss) + counted fs loss

false_true : false ≡ true → ⊥
false_true e = cc

-- what is said of the first of plain children
first_plain : (w x : ℕ) (fs : Children) (own seen : FinSet nat_cmp) → are_plain (child w (member x) fs) own seen ≡ true → (w ≡ 1) × (contains own x ≡ true) × (contains seen x ≡ false) × (are_plain fs own (insert seen x) ≡ true)
first_plain w x fs own seen h = grind (arith, common_steps)

one_held : (w : ℕ) (o l : Bool) → w ≡ 1 → o ≡ true → (if (o && not l) then w else 0) + bit l ≡ 1
one_held w true true one is = refl
one_held w true false one is = omega (arith, one)
one_held w false l one is = absurd (false_true is)

-- each child holds in what is left or in the loss
plain_held : (fs : Children) (own seen : FinSet nat_cmp) (loss : Members) → are_plain fs own seen ≡ true → weight_held fs (left_by loss own) + counted fs loss ≡ length (formulas fs)
plain_held no_child own seen loss h = refl
plain_held (child w (member x) fs) own seen loss h =
    let is = first_plain w x fs own seen h in
    omega (arith, one_held w (contains own x) (loss x) is.0 is.1, plain_held fs own (insert seen x) loss is.3)
plain_held (child w (at_least k of) fs) own seen loss h = absurd (false_true h)

sub_more : (own seen : FinSet nat_cmp) (x : ℕ) → contains own x ≡ true → ((y : ℕ) → contains seen y ≡ true → contains own y ≡ true) → (y : ℕ) → contains (insert seen x) y ≡ true → contains own y ≡ true
sub_more own seen x is sub y h = grind (arith, common_steps, nat_eq, nat_tests, contains-put)

-- a loss takes at least as many members as children
plain_within : (fs : Children) (own seen : FinSet nat_cmp) (loss : Members) → ((y : ℕ) → contains own y ≡ true → y < 64) → ((y : ℕ) → contains seen y ≡ true → contains own y ≡ true) → are_plain fs own seen ≡ true → counted fs loss + taken loss (listed seen) ≤ taken loss (listed own)
plain_within no_child own seen loss below sub h = omega (arith, taken_within loss 64 (contains seen) (contains own) sub)
plain_within (child w (member x) fs) own seen loss below sub h =
    let is = first_plain w x fs own seen h in
    let low : nat_lt x 64 ≡ true = let lt : x < 64 = below x is.1 in grind (arith, nat_tests, lt) in
    let more : taken loss (listed (insert seen x)) ≡ taken loss (listed seen) + (if nat_lt x 64 then bit (loss x) else 0) = put_taken loss 64 x (contains seen) (contains (insert seen x)) (contains-put seen x) is.2 in
    let whole : (if nat_lt x 64 then bit (loss x) else 0) ≡ bit (loss x) = ap (λ b. if b then bit (loss x) else 0) low in
    omega (arith, plain_within fs own (insert seen x) loss below (sub_more own seen x is.1 sub) is.3, more, whole)
plain_within (child w (at_least k of) fs) own seen loss below sub h = absurd (false_true h)

abbrev nobody : FinSet nat_cmp
nobody = empty

none_seen : (own : FinSet nat_cmp) (y : ℕ) → contains nobody y ≡ true → contains own y ≡ true
none_seen own y h = absurd (false_true (sym (contains-empty nat_cmp y) ∙ h))

at_most : (k n : ℕ) → k ≤ n → nat_le k n ≡ true
at_most k n h = grind (arith, nat_tests, h)

-- so many lost members that stop a plain threshold are a smallest loss
pub plain_least : (k : ℕ) (fs : Children) (own lost : FinSet nat_cmp) → ((y : ℕ) → contains own y ≡ true → y < 64) → are_plain fs own nobody ≡ true → count_of lost + k ≤ length (formulas fs) + 1 → sat (at_least k fs) (contains (difference own lost)) ≡ false → IsLeastLoss (at_least k fs) own lost
unfolding all_of
plain_least k fs own lost below plain few stops = record {
  stops = stops;
  least = λ loss h.
      at_most k (weight_held fs (left_by loss own)) (omega (arith, plain_held fs own nobody loss plain, plain_within fs own nobody loss below (none_seen own) plain, h, few));
}
