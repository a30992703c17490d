-- Disjoint sets of members, by the test for a subset of the complement.
use Rattle.std.proofs.Common.{◌≡◌, ◌∙◌, Bool, true, false, sym, ap, refl, not, ◌&&◌, lt-ltb}
use Rattle.std.specs.Ordering.{nat_cmp}
use Rattle.std.specs.FinSet.{FinSet, contains, difference, is_subset, contains-difference, is_subset-contains, contains-is_subset}
use Rattle.std.specs.Cmp.{nat_cmp_total}
use Rattle.volume_model.specs.Common.{AreDisjoint, AreMembers}
use Rattle.quorum_expr.specs.Common.{all_members}
use Rattle.quorum_expr.proofs.MemberSetLaws.{contains-all_members}

not_both : (p q : Bool) → (p && not q) ≡ true → q ≡ true → ⊥
not_both true true e f = cc
not_both true false e f = cc
not_both false q e f = cc

pub apart_of : (s t u : FinSet nat_cmp) → u ≡ difference all_members t → is_subset s u ≡ true → AreDisjoint (contains s) (contains t)
apart_of s t u is within x a b =
    not_both (contains all_members x) (contains t x)
    (sym (ap (λ v. contains v x) is ∙ contains-difference nat_cmp_total all_members t x) ∙ is_subset-contains nat_cmp_total s u within x a) b

outside : (p q : Bool) → p ≡ true → (q ≡ true → ⊥) → (p && not q) ≡ true
outside true true e none = absurd (none refl)
outside true false e none = refl
outside false q e none = absurd cc

pub of_apart : (s t u : FinSet nat_cmp) → u ≡ difference all_members t → AreMembers (contains s) → AreDisjoint (contains s) (contains t) → is_subset s u ≡ true
of_apart s t u is members apart = contains-is_subset nat_cmp_total s u (λ x a.
    ap (λ v. contains v x) is ∙ contains-difference nat_cmp_total all_members t x ∙
    outside (contains all_members x) (contains t x) (contains-all_members x ∙ lt-ltb x 64 (members x a)) (λ b. apart x a b))
