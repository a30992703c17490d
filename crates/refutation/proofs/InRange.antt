-- The ranges of rules, branch by branch.
use Rattle.std.proofs.Common.{◌≡◌, ℕ, ◌+◌, ◌<◌, ◌≤◌, ◌∙◌, length, get_or, drop, List, map, ap, subst, sym, Result, Ok, Err, All, IfOk, OnOk, Vec}
use Rattle.std.specs.Result.{IsErrAnd}
use Rattle.refutation.specs.declared.Side.{Side}
use Rattle.refutation.specs.declared.Refutation.{Refutation}
use Rattle.refutation.specs.declared.Refutation.TheVariants.{Pick, Match}
use Rattle.refutation.specs.Rule.{Rule, branches_of}
use Rattle.refutation.specs.Refutation.{rule_of}
use Rattle.refutation.specs.Ranges.{IsPairInRange, HasRanges, EachHasRanges}
use Rattle.refutation.proofs.Rules.{branches_step, rule_of-Pick, rule_of-Match}

-- the branch at hand has its ranges where those after it do
pub ranges_step : {A : Type 0} (then : List (Refutation A)) (i : ℕ) (x : Refutation A) → i < length then → x ≡ get_or then i x → HasRanges (rule_of x)
    → EachHasRanges (branches_of (map rule_of (drop (i + 1) then))) → EachHasRanges (branches_of (map rule_of (drop i then)))
ranges_step {A} then i x h is here after =
    subst (λ (rs : List Rule). EachHasRanges (branches_of rs)) (sym (branches_step then i x h is)) (here, after)

-- an error says nothing of a value
pub none_written : {T E : Type 0} (P : T → Type 0) (R : E → Type 0) (r : Result T E) → IsErrAnd r R → IfOk r P
none_written P R (Ok x) h = absurd h
none_written P R (Err e) h = tt

pub none_ranges : {T E : Type 0} (P : Type 0) (R : E → Type 0) (r : Result T E) → IsErrAnd r R → OnOk r P
none_ranges P R (Ok x) h = absurd h
none_ranges P R (Err e) h = tt

-- a fact that holds whatever the result is
pub on_ok : {T E : Type 0} (P : Type 0) (r : Result T E) → P → OnOk r P
on_ok P (Ok x) h = h
on_ok P (Err e) h = tt

pub pick_in_range : {A : Type 0} (rule : Refutation A) (side : Side) (item : ℕ) (children : Vec ℕ A) (then : Vec (Refutation A) A) (numbers : List ℕ) (branches : List (Refutation A)) → rule ≡ Pick side item children then → numbers ≡ children.items → branches ≡ then.items
    → item ≤ 65535 → All (λ n. n ≤ 255) numbers → EachHasRanges (branches_of (map rule_of branches)) → HasRanges (rule_of rule)
pick_in_range rule side item children then numbers branches is ns bs h k l =
    subst HasRanges (sym (ap rule_of is ∙ rule_of-Pick side item children then))
    (h, subst (All (λ n. n ≤ 255)) ns k, subst (λ rs. EachHasRanges (branches_of (map rule_of rs))) bs l)

pub match_in_range : {A : Type 0} (rule : Refutation A) (left right : ℕ) (pairs : Vec (ℕ × ℕ) A) (then : Vec (Refutation A) A) (numbers : List (ℕ × ℕ)) (branches : List (Refutation A)) → rule ≡ Match left right pairs then → numbers ≡ pairs.items → branches ≡ then.items
    → left ≤ 65535 → right ≤ 65535 → All IsPairInRange numbers → EachHasRanges (branches_of (map rule_of branches)) → HasRanges (rule_of rule)
match_in_range rule left right pairs then numbers branches is ns bs h i k l =
    subst HasRanges (sym (ap rule_of is ∙ rule_of-Match left right pairs then))
    (h, i, subst (All IsPairInRange) ns k, subst (λ rs. EachHasRanges (branches_of (map rule_of rs))) bs l)
