-- When a rule refutes a state.
use Rattle.std.specs.Prelude.{◌≡◌, ℕ, ◌+◌, ◌<◌, min, false, List, [], ◌∷◌, ◌++◌, Some, slice_get, remove, nat_eq, map}
use Rattle.std.specs.List.{IsDistinct}
use Rattle.std.specs.Ordering.{nat_cmp}
use Rattle.std.specs.FinSet.{FinSet, empty, insert, contains, difference}
use Rattle.volume_model.specs.Common.{Formula, Children, at_least, sat, total_weight, formulas, weight_at, EachWeighs}
use Rattle.volume_model.specs.Formula.{member}
use Rattle.quorum_expr.specs.Common.{all_members}
use Rattle.refutation.specs.declared.Side.{Side}
use Rattle.refutation.specs.declared.Side.TheVariants.{Left, Right}
use Rattle.refutation.specs.Common.{Rule, Branches, dead, clash, open_all, pick, pair_up, split, no_branch, branch}

-- The items of both sides, and the members that are absent from each.
pub record State : Type 0 where
  pub left : List Formula
  pub right : List Formula
  pub absent_left : FinSet nat_cmp
  pub absent_right : FinSet nat_cmp

-- the items of a side
abbrev pub items_of : Side → State → List Formula
items_of Left st = st.left
items_of Right st = st.right

-- the members that are absent from a side
abbrev pub absent_of : Side → State → FinSet nat_cmp
absent_of Left st = st.absent_left
absent_of Right st = st.absent_right

-- the state with other items on a side
abbrev pub with_items : Side → List Formula → State → State
with_items Left fs st = record st { left = fs }
with_items Right fs st = record st { right = fs }

-- an item is removed, later ones move down by one, and others are added at the end
abbrev pub replaced : Side → ℕ → List Formula → State → State
replaced side i fs st = with_items side (remove (items_of side st) i ++ fs) st

-- both items are replaced by a child of each
abbrev pub paired : ℕ → ℕ → Formula → Formula → State → State
paired i j f g st = record st { left = remove st.left i ++ f ∷ []; right = remove st.right j ++ g ∷ [] }

-- the state with other members absent from a side
abbrev pub with_absent : Side → FinSet nat_cmp → State → State
with_absent Left absent st = record st { absent_left = absent }
with_absent Right absent st = record st { absent_right = absent }

-- the state with one more member absent from a side
abbrev pub without : Side → ℕ → State → State
without Left x st = record st { absent_left = insert st.absent_left x }
without Right x st = record st { absent_right = insert st.absent_right x }

-- the weights of the children with these numbers
abbrev pub picked_weight : Children → List ℕ → ℕ
picked_weight of [] = 0
picked_weight of (c ∷ cs) = weight_at of c + picked_weight of cs

-- the sum of the smaller weight of each pair
abbrev pub paired_weight : Children → Children → List (ℕ × ℕ) → ℕ
paired_weight of others [] = 0
paired_weight of others (p ∷ ps) = min (weight_at of p.0) (weight_at others p.1) + paired_weight of others ps

abbrev mutual
  -- the rule shows that no two disjoint sets satisfy all items of the state
  pub Refutes : Rule → State → Type 0
  -- The item isn't satisfied even by all members that aren't absent.
  Refutes (dead side i) st =
      (f : Formula) × (slice_get (items_of side st) i ≡ Some f)
      × (sat f (contains (difference all_members (absent_of side st))) ≡ false)
  -- A member can't be in both of two disjoint sets.
  Refutes (clash i j) st = (x : ℕ) × (slice_get st.left i ≡ Some (member x)) × (slice_get st.right j ≡ Some (member x))
  -- All children must be satisfied.
  Refutes (open_all side i rule) st =
      (of : Children) × (slice_get (items_of side st) i ≡ Some (at_least (total_weight of) of)) × EachWeighs of
      × Refutes rule (replaced side i (formulas of) st)
  -- One of these children is satisfied, since the others weigh too little.
  Refutes (pick side i children branches) st =
      (k : ℕ) × (of : Children) × (slice_get (items_of side st) i ≡ Some (at_least k of))
      × IsDistinct nat_eq children × (total_weight of < k + picked_weight of children)
      × RefutesPicked branches side i of children st
  -- Both children of one of these pairs are satisfied, since the rest weighs too little.
  Refutes (pair_up i j pairs branches) st =
      (k : ℕ) × (of : Children) × (slice_get st.left i ≡ Some (at_least k of))
      × (l : ℕ) × (others : Children) × (slice_get st.right j ≡ Some (at_least l others))
      × IsDistinct nat_eq (map (λ p. p.0) pairs) × IsDistinct nat_eq (map (λ p. p.1) pairs)
      × (total_weight of + total_weight others < k + l + paired_weight of others pairs)
      × RefutesPaired branches i j of others pairs st
  -- A member is absent from one of two disjoint sets.
  Refutes (split x left right) st = Refutes left (without Left x st) × Refutes right (without Right x st)

  -- there is a branch for each child, which refutes the state with the child in place of the item
  pub RefutesPicked : Branches → Side → ℕ → Children → List ℕ → State → Type 0
  RefutesPicked no_branch side i of [] st = Unit {0}
  RefutesPicked no_branch side i of (c ∷ cs) st = ⊥
  RefutesPicked (branch rule rest) side i of [] st = ⊥
  RefutesPicked (branch rule rest) side i of (c ∷ cs) st =
      (f : Formula) × (slice_get (formulas of) c ≡ Some f) × Refutes rule (replaced side i (f ∷ []) st)
      × RefutesPicked rest side i of cs st

  -- there is a branch for each pair, which refutes the state with the pair's children in place of the items
  pub RefutesPaired : Branches → ℕ → ℕ → Children → Children → List (ℕ × ℕ) → State → Type 0
  RefutesPaired no_branch i j of others [] st = Unit {0}
  RefutesPaired no_branch i j of others (p ∷ ps) st = ⊥
  RefutesPaired (branch rule rest) i j of others [] st = ⊥
  RefutesPaired (branch rule rest) i j of others (p ∷ ps) st =
      (f : Formula) × (g : Formula) × (slice_get (formulas of) p.0 ≡ Some f) × (slice_get (formulas others) p.1
      ≡ Some g)
      × Refutes rule (paired i j f g st) × RefutesPaired rest i j of others ps st

-- the state of a claim: its two formulas, and the members that the left set doesn't have
abbrev pub claim_state : Formula → Formula → FinSet nat_cmp → State
claim_state left right clear =
    record { left = left ∷ []; right = right ∷ []; absent_left = clear; absent_right = empty }
