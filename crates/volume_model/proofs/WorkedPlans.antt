-- The worked plans are certified
use Rattle.std.proofs.Common.{◌≡◌, ℕ, zero, suc, ◌+◌, ◌<◌, ◌≤◌, Bool, true, false, not, nat_le, ◌⊎◌, List, [], ◌∷◌, map, length, if◌then◌else◌, refl, sym, inl, inr, arith}
use Rattle.std.proofs.lemmas.Bool.{cases_Bool, and_parts, true≢false, leb-true, le-leb, not-true}
use Rattle.volume_model.specs.Common.{Formula, Members, each_once, sat, weight_held, HasCounts, IsStep, HaveCommonMember, some_of, count_of, six, three, other_six, replacing, member_replaced, SixCopiesCertified, FullAndTailCertified, MemberReplacedCertified}
use Rattle.volume_model.specs.Formula.{member}
use Rattle.volume_model.proofs.Above.{above_first}
use Rattle.std.proofs.lemmas.Grind.{common_steps}
use Rattle.std.proofs.Common.{rules}

-- how many of the members are in the set
abbrev held_of : List ℕ → Members → ℕ
held_of members s = weight_held (each_once (map member members)) s

-- two sets that together hold more than all the members there are hold one of them both
held_by_both : (members : List ℕ) (r w : Members) → length members < held_of members r + held_of members w → (x : ℕ) × (r x ≡ true) × (w x ≡ true)
held_by_both [] r w h = absurd (omega arith)
held_by_both (x ∷ members) r w h =
    elim (cases_Bool (r x)) [
      | inl a ↦ elim (cases_Bool (w x)) [
        | inl b ↦ (x, a, b)
        | inr b ↦ (let h' : suc (length members) < 1 + held_of members r + (0 + held_of members w) = rw (a, b) at h in held_by_both members r w (omega arith))
      ]
      | inr a ↦ elim (cases_Bool (w x)) [
        | inl b ↦ (let h' : suc (length members) < 0 + held_of members r + (1 + held_of members w) = rw (a, b) at h in held_by_both members r w (omega arith))
        | inr b ↦ (let h' : suc (length members) < 0 + held_of members r + (0 + held_of members w) = rw (a, b) at h in held_by_both members r w (omega arith))
      ]
    ]

-- k of them and l of them have one in common, where k and l are more than there are
counts_meet : (k l : ℕ) (members : List ℕ) → length members < k + l → HaveCommonMember (count_of k members) (count_of l members)
counts_meet k l members more r w reads writes = grind (arith, common_steps, held_of, leb-true, held_by_both)

one_held : (a b : Bool) → nat_le 1 ((if a then 1 else 0) + ((if b then 1 else 0) + 0)) ≡ true → (a ≡ true) ⊎ (b ≡ true)
one_held true b h = inl refl
one_held false true h = inr refl
one_held false false h = absurd (true≢false (sym h))

-- what holds in both of two meets what holds in one of two, where each meets its own
both_meet_one : (f g p q : Formula) → HaveCommonMember f p → HaveCommonMember g q → HaveCommonMember (some_of 2 (f ∷ g ∷ [])) (some_of 1 (p ∷ q ∷ []))
both_meet_one f g p q fp gq r w reads writes = grind (arith, common_steps)

-- and the other way round
one_meets_both : (f g p q : Formula) → HaveCommonMember f p → HaveCommonMember g q → HaveCommonMember (some_of 1 (f ∷ g ∷ [])) (some_of 2 (p ∷ q ∷ []))
one_meets_both f g p q fp gq r w reads writes = grind (arith, common_steps)

-- ---- a group with one configuration

six_counts : (k : ℕ) → 0 < k → k ≤ 6 → HasCounts (count_of k six)
six_counts k low high = (low, high, omega arith, (tt, (tt, (tt, (tt, (tt, (tt, tt)))))))

other_counts : (k : ℕ) → 0 < k → k ≤ 6 → HasCounts (count_of k other_six)
other_counts k low high = (low, high, omega arith, (tt, (tt, (tt, (tt, (tt, (tt, tt)))))))

three_counts : (k : ℕ) → 0 < k → k ≤ 3 → HasCounts (count_of k three)
three_counts k low high = (low, high, omega arith, (tt, (tt, (tt, tt))))

six_meet : HaveCommonMember (count_of 3 six) (count_of 4 six)
six_meet = counts_meet 3 4 six (omega arith)

other_meet : HaveCommonMember (count_of 3 other_six) (count_of 4 other_six)
other_meet = counts_meet 3 4 other_six (omega arith)

three_meet : HaveCommonMember (count_of 1 three) (count_of 3 three)
three_meet = counts_meet 1 3 three (omega arith)

pub six_copies_certified : SixCopiesCertified
six_copies_certified = grind (arith, common_steps, six_counts, six_meet)

pub full_and_tail_certified : FullAndTailCertified
full_and_tail_certified = grind (arith, common_steps, six_counts, three_counts, both_meet_one, six_meet, three_meet)

-- ---- a member that is replaced

replacing_counts : (c : ℕ) → HasCounts (replacing c).read
replacing_counts zero = six_counts 3 (omega arith) (omega arith)
replacing_counts (suc zero) = (omega arith, omega arith, omega arith, (six_counts 3 (omega arith) (omega arith), (other_counts 3 (omega arith) (omega arith), tt)))
replacing_counts (suc (suc zero)) = other_counts 3 (omega arith) (omega arith)
replacing_counts (suc (suc (suc c))) = six_counts 3 (omega arith) (omega arith)

replacing_meets : (c : ℕ) → HaveCommonMember (replacing c).read (replacing c).write
replacing_meets zero = six_meet
replacing_meets (suc zero) = one_meets_both (count_of 3 six) (count_of 3 other_six) (count_of 4 six) (count_of 4 other_six) six_meet other_meet
replacing_meets (suc (suc zero)) = other_meet
replacing_meets (suc (suc (suc c))) = six_meet

-- a set that lacks member 6 and holds three of the other six holds three of the six
three_without : (a b c d e f : ℕ) → nat_le 3 (a + (b + (c + (d + (e + (0 + 0)))))) ≡ true → nat_le 3 (a + (b + (c + (d + (e + (f + 0)))))) ≡ true
three_without a b c d e f h = let l : 3 ≤ a + (b + (c + (d + (e + (0 + 0))))) = leb-true _ _ h in le-leb _ _ (omega arith)

-- one, where the member is in the set
abbrev weight : Members → ℕ → ℕ
weight s x = if s x then 1 else 0

six_from_other : (s : Members) → s 6 ≡ false → sat (count_of 3 other_six) s ≡ true → sat (count_of 3 six) s ≡ true
six_from_other s lacks h = three_without (weight s 0) (weight s 1) (weight s 2) (weight s 3) (weight s 4) (weight s 5) (rw lacks at h)

replacing_step : (group c : ℕ) → c < 4 → 0 < c → IsStep member_replaced group c
replacing_step group zero below positive = absurd (omega arith)
replacing_step group (suc zero) below positive = grind (arith, common_steps, above_first, not-true, and_parts, not, one_held, cases_Bool, true≢false, six_from_other)
replacing_step group (suc (suc zero)) below positive = grind (arith, common_steps)
replacing_step group (suc (suc (suc zero))) below positive = grind (arith, common_steps)
replacing_step group (suc (suc (suc (suc c)))) below positive = absurd (omega arith)

pub member_replaced_certified : MemberReplacedCertified
member_replaced_certified = search (rules, replacing_counts, replacing_meets, replacing_step)
