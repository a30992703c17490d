-- Certificates whose numbers are in their ranges, which are read back.
use Rattle.std.proofs.Common.{◌≡◌, ℕ, ◌≤◌, ◌∙◌, List, length, drop, take, map, Some, None, refl, ap, sym, subst, arith, true, All, Box}
use Rattle.std.proofs.lemmas.List.{drop_all, take_all}
use Rattle.std.proofs.lemmas.List.Elements.{All-same}
use Rattle.refutation.specs.declared.Side.{Side}
use Rattle.refutation.specs.declared.Refutation.{Refutation}
use Rattle.refutation.specs.declared.Refutation.TheVariants.{Dead, Clash, Open, Split}
use Rattle.refutation.specs.Common.{Rule, branches_of, depth_of, is_certificate, HasRanges, EachHasRanges, rule_of}
use Rattle.refutation.proofs.Rules.{rule_of-Dead, rule_of-Clash, rule_of-Open, rule_of-Split}
use Rattle.refutation.proofs.ReadBack.{certificate_in-written}
use Rattle.refutation.proofs.Nests.{certificate-nests}
use Rattle.plan.proofs.Rewrites.{some-certificate}
use Rattle.plan.specs.Certificates.{IsReadBack}
use Rattle.plan.specs.Rules.{EachInRange}
use Rattle.std.proofs.lemmas.Grind.{common_steps}

pub none_back : IsReadBack None
none_back = record { read = refl; nests = omega arith }

pub some_back : (r : Rule) → is_certificate r ≡ true → depth_of r ≤ 40 → HasRanges r → IsReadBack (Some r)
some_back r within deep ranges = grind (arith, common_steps, some-certificate, certificate_in-written, certificate-nests)

-- ---- one rule

pub dead_ranges : {A : Type 0} (rule : Refutation A) (side : Side) (item : ℕ) → rule ≡ Dead side item → item ≤ 65535 → HasRanges (rule_of rule)
dead_ranges {A} rule side item is h = subst HasRanges (sym (ap rule_of is ∙ rule_of-Dead A side item)) h

pub clash_ranges : {A : Type 0} (rule : Refutation A) (left right : ℕ) → rule ≡ Clash left right → left ≤ 65535 → right ≤ 65535 → HasRanges (rule_of rule)
clash_ranges {A} rule left right is h k = subst HasRanges (sym (ap rule_of is ∙ rule_of-Clash A left right)) (h, k)

pub open_ranges : {A : Type 0} (rule : Refutation A) (side : Side) (item : ℕ) (then : Box (Refutation A) A) (x : Refutation A) → rule ≡ Open side item then → x ≡ then.value → item ≤ 65535 → HasRanges (rule_of x) → HasRanges (rule_of rule)
open_ranges rule side item then x is same h k = subst HasRanges (sym (ap rule_of is ∙ rule_of-Open side item then)) (h, subst (λ y. HasRanges (rule_of y)) same k)

pub split_ranges : {A : Type 0} (rule : Refutation A) (member : ℕ) (left right : Box (Refutation A) A) (x y : Refutation A) → rule ≡ Split member left right → x ≡ left.value → y ≡ right.value → HasRanges (rule_of x) → HasRanges (rule_of y) → HasRanges (rule_of rule)
split_ranges rule member left right x y is one other h k =
    subst HasRanges (sym (ap rule_of is ∙ rule_of-Split member left right)) (subst (λ z. HasRanges (rule_of z)) one h, subst (λ z. HasRanges (rule_of z)) other k)

-- no branch is left
pub all_in_range : {A : Type 0} (then : List (Refutation A)) (i : ℕ) → length then ≤ i → (EachHasRanges (branches_of (map rule_of (drop i then))) → EachHasRanges (branches_of (map rule_of then))) → EachInRange then
all_in_range then i past so_far = so_far (subst (λ rs. EachHasRanges (branches_of (map rule_of rs))) (sym (drop_all i then past)) tt)

-- what holds of the first ones holds of all, where these are all
pub all_through : {X : Type 0} (P : X → Type 0) (xs : List X) (i : ℕ) → length xs ≤ i → All P (take i xs) → All P xs
all_through P xs i past so_far = All-same P xs (take i xs) (sym (take_all i xs past)) so_far
