-- What follows from an expression having no fault.
use Rattle.std.proofs.Common.{◌≡◌, ℕ, suc, ◌+◌, ◌-◌, ◌<◌, ◌≤◌, arith, refl, ap, ◌∙◌, Bool, true, false, ◌&&◌, ◌==◌, nat_lt, nat_le, if◌then◌else◌, Option, Some, None, length}
use Rattle.std.proofs.lemmas.Bool.Decides.{nat_tests}
use Rattle.volume_model.specs.declared.fault.Fault.{Fault}
use Rattle.volume_model.specs.declared.fault.Fault.TheVariants.{BadCount, TooDeep, NotAMember, OverLimit}
use Rattle.volume_model.specs.Common.{Formula, Children, Members, at_least, no_child, child, formulas, total_weight, dual_of, duals_of, HasCounts, EachHasCounts, SpeaksOf, EachSpeaksOf}
use Rattle.volume_model.specs.Formula.{member}
use Rattle.quorum_expr.specs.Valid.{or_then, each_fits, good_choice, good_threshold, shape_fault, row_fault, nodes, row_nodes, expression_fault}

-- ---- the parts of a test without a fault

passes : (a b : Bool) (x : Option Fault) → (if a then Some TooDeep else (if b then x else Some BadCount)) ≡ None → (a ≡ false) × (b ≡ true) × (x ≡ None)
passes true b x h = absurd (cc)
passes false true x h = (refl, refl, h)
passes false false x h = absurd (cc)

passes_member : (a b : Bool) → (if a then Some TooDeep else (if b then None else Some NotAMember)) ≡ None → (a ≡ false) × (b ≡ true)
passes_member true b h = absurd (cc)
passes_member false true h = (refl, refl)
passes_member false false h = absurd (cc)

both_none : (a b : Option Fault) → or_then a b ≡ None → (a ≡ None) × (b ≡ None)
both_none None b h = (refl, h)
both_none (Some e) b h = absurd (cc)

pub neither : (a b : Option Fault) → a ≡ None → b ≡ None → or_then a b ≡ None
neither None b h i = i
neither (Some e) b h i = absurd (cc)

both_hold : (a b : Bool) → (a && b) ≡ true → (a ≡ true) × (b ≡ true)
both_hold true b h = (refl, h)
both_hold false b h = absurd (cc)

both_so : (a b : Bool) → a ≡ true → b ≡ true → (a && b) ≡ true
both_so true b h i = i
both_so false b h i = absurd (cc)

within : (k weight children : ℕ) → good_threshold k weight children ≡ true → (0 < k) × (k ≤ weight) × (children ≤ 64)
within k weight children h = grind (arith, nat_tests)

counted : (k : ℕ) (of : Children) → good_choice k of ≡ true → (0 < k) × (k ≤ total_weight of) × (length (formulas of) ≤ 64)
counted k of h = within k (total_weight of) (length (formulas of)) (both_hold (each_fits of) (good_threshold k (total_weight of) (length (formulas of))) h).1

-- ---- good thresholds

mutual
  pub counts : (f : Formula) (levels : ℕ) → shape_fault f levels ≡ None → HasCounts f
  counts (member x) levels h = tt
  counts (at_least k of) levels h =
      let all = passes (levels == 0) (good_choice k of) (row_fault of (levels - 1)) h in
      let count = counted k of all.1 in
      (count.0, count.1, count.2, row_counts of (levels - 1) all.2)

  row_counts : (of : Children) (levels : ℕ) → row_fault of levels ≡ None → EachHasCounts of
  row_counts no_child levels h = tt
  row_counts (child w f fs) levels h =
      let both = both_none (shape_fault f levels) (row_fault fs levels) h in (counts f levels both.0, row_counts fs levels both.1)

-- a valid formula has a fault neither of shape nor of size
pub well_shaped : (f : Formula) → expression_fault f ≡ None → shape_fault f 6 ≡ None
well_shaped f h = (both_none (shape_fault f 6) (if nat_le (nodes f) 4096 then None else Some OverLimit) h).0

small : (b : Bool) → (if b then None else Some OverLimit) ≡ None → b ≡ true
small true h = refl
small false h = absurd (cc)

pub few_nodes : (f : Formula) → expression_fault f ≡ None → nat_le (nodes f) 4096 ≡ true
few_nodes f h = small (nat_le (nodes f) 4096) (both_none (shape_fault f 6) (if nat_le (nodes f) 4096 then None else Some OverLimit) h).1

-- each threshold of a valid formula is from 1 to the weight of all, which is at most 64
pub HasCounts-from : (f : Formula) → expression_fault f ≡ None → HasCounts f
HasCounts-from f h = counts f 6 (well_shaped f h)

-- ---- members

-- the numbers that members can have
abbrev pub below_64 : Members
below_64 x = nat_lt x 64

mutual
  pub speaks : (f : Formula) (levels : ℕ) → shape_fault f levels ≡ None → SpeaksOf f below_64
  speaks (member x) levels h = (passes_member (levels == 0) (nat_lt x 64) h).1
  speaks (at_least k of) levels h =
      row_speaks of (levels - 1) (passes (levels == 0) (good_choice k of) (row_fault of (levels - 1)) h).2

  row_speaks : (of : Children) (levels : ℕ) → row_fault of levels ≡ None → EachSpeaksOf of below_64
  row_speaks no_child levels h = tt
  row_speaks (child w f fs) levels h =
      let both = both_none (shape_fault f levels) (row_fault fs levels) h in (speaks f levels both.0, row_speaks fs levels both.1)

-- a valid formula names no member but those below 64
pub SpeaksOf-from : (f : Formula) → expression_fault f ≡ None → SpeaksOf f below_64
SpeaksOf-from f h = speaks f 6 (well_shaped f h)

-- ---- duals

pub total_weight-duals_of : (of : Children) → total_weight (duals_of of) ≡ total_weight of
total_weight-duals_of no_child = refl
total_weight-duals_of (child w f fs) = ap (λ n. w + n) (total_weight-duals_of fs)

mutual
  pub nodes-dual_of : (f : Formula) → nodes (dual_of f) ≡ nodes f
  nodes-dual_of (member x) = refl
  nodes-dual_of (at_least k of) = ap (λ n. 1 + n) (row_nodes-duals_of of)

  row_nodes-duals_of : (of : Children) → row_nodes (duals_of of) ≡ row_nodes of
  row_nodes-duals_of no_child = refl
  row_nodes-duals_of (child w f fs) = λ i. nodes-dual_of f i + row_nodes-duals_of fs i

dual_count : (k weight children : ℕ) → good_threshold k weight children ≡ true → good_threshold (weight + 1 - k) weight children ≡ true
dual_count k weight children h = grind (arith, nat_tests)

-- the dual has as many children
children-duals_of : (of : Children) → length (formulas (duals_of of)) ≡ length (formulas of)
children-duals_of no_child = refl
children-duals_of (child w f fs) = ap suc (children-duals_of fs)

-- they weigh the same
fits-duals_of : (of : Children) → each_fits (duals_of of) ≡ each_fits of
fits-duals_of no_child = refl
fits-duals_of (child w f fs) = ap (λ b. nat_le 1 w && (nat_le w 255 && b)) (fits-duals_of fs)

mutual
  shape-dual_of : (f : Formula) (levels : ℕ) → shape_fault f levels ≡ None → shape_fault (dual_of f) levels ≡ None
  shape-dual_of (member x) levels h = h
  shape-dual_of (at_least k of) levels h =
      let all = passes (levels == 0) (good_choice k of) (row_fault of (levels - 1)) h in
      let good = both_hold (each_fits of) (good_threshold k (total_weight of) (length (formulas of))) all.1 in
      let count : good_threshold (total_weight of + 1 - k) (total_weight (duals_of of)) (length (formulas (duals_of of))) ≡ true =
      (λ i. good_threshold (total_weight of + 1 - k) (total_weight-duals_of of i) (children-duals_of of i)) ∙ dual_count k (total_weight of) (length (formulas of)) good.1 in
      let choice : good_choice (total_weight of + 1 - k) (duals_of of) ≡ true = both_so _ _ (fits-duals_of of ∙ good.0) count in
      ap (λ (b : Bool). if b then Some TooDeep else (if good_choice (total_weight of + 1 - k) (duals_of of) then row_fault (duals_of of) (levels - 1) else Some BadCount)) all.0
      ∙ ap (λ (b : Bool). if b then row_fault (duals_of of) (levels - 1) else Some BadCount) choice ∙ row-duals_of of (levels - 1) all.2

  row-duals_of : (of : Children) (levels : ℕ) → row_fault of levels ≡ None → row_fault (duals_of of) levels ≡ None
  row-duals_of no_child levels h = refl
  row-duals_of (child w f fs) levels h =
      let both = both_none (shape_fault f levels) (row_fault fs levels) h in
      neither _ _ (shape-dual_of f levels both.0) (row-duals_of fs levels both.1)

-- the dual of a valid formula is valid
pub valid-dual_of : (f : Formula) → expression_fault f ≡ None → expression_fault (dual_of f) ≡ None
valid-dual_of f h =
    neither (shape_fault (dual_of f) 6) (if nat_le (nodes (dual_of f)) 4096 then None else Some OverLimit) (shape-dual_of f 6 (well_shaped f h))
    (ap (λ (n : ℕ). if nat_le n 4096 then None else Some OverLimit) (nodes-dual_of f) ∙ ap (λ (b : Bool). if b then None else Some OverLimit) (few_nodes f h))
