-- Sets of members that include each other.
use Rattle.std.proofs.Common.{◌≡◌, refl, sym, Bool, true, false}
use Rattle.std.specs.Cmp.{nat_cmp_total}
use Rattle.std.specs.Ordering.{nat_cmp}
use Rattle.std.specs.FinSet.{FinSet, contains, is_subset, is_subset-contains}
use Rattle.quorum_expr.proofs.MemberSetLaws.{same_members}

-- tests of which each implies the other
same_tests : (b c : Bool) → (b ≡ true → c ≡ true) → (c ≡ true → b ≡ true) → b ≡ c
same_tests true c there back = sym (there refl)
same_tests false true there back = back refl
same_tests false false there back = refl

pub same_of_subsets : (s t : FinSet nat_cmp) → is_subset s t ≡ true → is_subset t s ≡ true → s ≡ t
same_of_subsets s t within around =
    same_members s t (λ x. same_tests (contains s x) (contains t x) (is_subset-contains nat_cmp_total s t within x) (is_subset-contains nat_cmp_total t s around x))
