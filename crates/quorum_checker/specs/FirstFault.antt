-- The first fault of a refutation.
use Rattle.std.specs.Prelude.{ℕ, ◌+◌, Bool, true, not, ◌&&◌, ◌==◌, nat_lt, if◌then◌else◌, List, [], ◌∷◌, length, map, Option, Some, None, slice_get, slice_index_or}
use Rattle.std.specs.List.{list_any}
use Rattle.std.specs.Ordering.{nat_cmp}
use Rattle.std.specs.FinSet.{FinSet, contains, difference}
use Rattle.volume_model.specs.Common.{Formula, at_least, sat, total_weight, formulas, each_weighs}
use Rattle.volume_model.specs.Formula.{member}
use Rattle.quorum_expr.specs.Common.{all_members}
use Rattle.refutation.specs.declared.Side.{Side}
use Rattle.refutation.specs.declared.Side.TheVariants.{Left, Right}
use Rattle.refutation.specs.Common.{Rule, Branches, dead, clash, open_all, pick, pair_up, split, no_branch, branch, branch_count}
use Rattle.volume_model.specs.declared.fault.Fault.{Fault}
use Rattle.volume_model.specs.declared.fault.Fault.TheVariants.{NoSuchItem, NotDead, NoClash, NotAll, TooFewPicked, BadPair, CountTooSmall, BranchCount}
use Rattle.quorum_checker.specs.declared.fault.FaultAt.{FaultAt}
use Rattle.quorum_checker.specs.Refutes.{State, items_of, absent_of, replaced, paired, without, picked_weight, paired_weight}

-- the numbers are distinct and below n
abbrev pub good_places : ℕ → List ℕ → Bool
good_places n [] = true
good_places n (c ∷ cs) = nat_lt c n && (not (list_any (λ d. d == c) cs) && good_places n cs)

-- the children of an item, in order; a member has none
abbrev pub children_of : Formula → List Formula
children_of (member x) = []
children_of (at_least k of) = formulas of

-- ---- the fault of a rule itself, given its items

-- the fault of a `dead` rule with this item
abbrev pub dead_fault : Formula → FinSet nat_cmp → Option Fault
dead_fault f absent = (if sat f (contains (difference all_members absent)) then Some NotDead else None)

-- the fault of a `clash` rule with these items
abbrev pub clash_fault : Formula → Formula → Option Fault
clash_fault (member x) (member y) = (if x == y then None else Some NoClash)
clash_fault (member x) (at_least l others) = Some NoClash
clash_fault (at_least k of) g = Some NoClash

-- the fault of an `open` rule with this item
abbrev pub open_fault : Formula → Option Fault
open_fault (member x) = Some NotAll
open_fault (at_least k of) = (if k == total_weight of && each_weighs of then None else Some NotAll)

-- the fault of a `pick` rule with this item, these children and this many branches
abbrev pub pick_fault : Formula → List ℕ → ℕ → Option Fault
pick_fault (member x) children branches = Some TooFewPicked
pick_fault (at_least k of) children branches =
    (if good_places (length (formulas of)) children
    then (if nat_lt (total_weight of) (k + picked_weight of children)
    then (if branches == length children then None else Some BranchCount)
    else Some TooFewPicked)
    else Some BadPair)

-- the fault of a `match` rule with these items, these pairs and this many branches
abbrev pub pair_fault : Formula → Formula → List (ℕ × ℕ) → ℕ → Option Fault
pair_fault (member x) g pairs branches = Some BadPair
pair_fault (at_least k of) (member y) pairs branches = Some BadPair
pair_fault (at_least k of) (at_least l others) pairs branches =
    (if good_places (length (formulas of)) (map (λ p. p.0) pairs) && good_places (length (formulas others))
    (map (λ p. p.1) pairs)
    then (if nat_lt (total_weight of + total_weight others) (k + l + paired_weight of others pairs)
    then (if branches == length pairs then None else Some BranchCount)
    else Some CountTooSmall)
    else Some BadPair)

-- ---- the fault of a rule with its branches, and its path

-- a fault at the rule itself
abbrev pub here : Fault → FaultAt
here fault = record { fault = fault; path = [] }

-- the fault of the rule itself, or else that of its branches
abbrev pub or_else : Option Fault → Option FaultAt → Option FaultAt
or_else None found = found
or_else (Some fault) found = Some (here fault)

-- the first of two faults
abbrev pub first_of : Option FaultAt → Option FaultAt → Option FaultAt
first_of None found = found
first_of (Some e) found = Some e

-- a fault in the branch with a number
abbrev pub under : ℕ → Option FaultAt → Option FaultAt
under n None = None
under n (Some e) = Some (record e { path = n ∷ e.path })

-- the fault that found gives for an item, or NoSuchItem if there is no item
abbrev pub at_item : Option Formula → (Formula → Option FaultAt) → Option FaultAt
at_item None found = Some (here NoSuchItem)
at_item (Some f) found = found f

-- the child with a number
abbrev pub place : List Formula → ℕ → Formula
place fs c = slice_index_or fs c (member 0)

abbrev mutual
  -- the first fault of a rule, with its path
  pub first_fault : Rule → State → Option FaultAt
  first_fault (dead side i) st =
      at_item (slice_get (items_of side st) i) (λ f. or_else (dead_fault f (absent_of side st)) None)
  first_fault (clash i j) st =
      at_item (slice_get st.left i) (λ f. at_item (slice_get st.right j) (λ g. or_else (clash_fault f g) None))
  first_fault (open_all side i rule) st =
      at_item (slice_get (items_of side st) i)
      (λ f. or_else (open_fault f) (under 0 (first_fault rule (replaced side i (children_of f) st))))
  first_fault (pick side i children branches) st =
      at_item (slice_get (items_of side st) i) (λ f.
      or_else (pick_fault f children (branch_count branches)) (first_picked 0 branches side i (children_of f) children
      st))
  first_fault (pair_up i j pairs branches) st =
      at_item (slice_get st.left i) (λ f. at_item (slice_get st.right j) (λ g.
      or_else (pair_fault f g pairs (branch_count branches)) (first_paired 0 branches i j (children_of f)
      (children_of g) pairs st)))
  first_fault (split x left right) st =
      first_of (under 0 (first_fault left (without Left x st))) (under 1 (first_fault right (without Right x st)))

  -- the first fault of branches, of which the first has number n
  pub first_picked : ℕ → Branches → Side → ℕ → List Formula → List ℕ → State → Option FaultAt
  first_picked n no_branch side i of cs st = None
  first_picked n (branch rule rest) side i of [] st = None
  first_picked n (branch rule rest) side i of (c ∷ cs) st =
      first_of (under n (first_fault rule (replaced side i (place of c ∷ []) st))) (first_picked (n + 1) rest side i of
      cs st)

  pub first_paired : ℕ → Branches → ℕ → ℕ → List Formula → List Formula → List (ℕ × ℕ) → State → Option FaultAt
  first_paired n no_branch i j of others ps st = None
  first_paired n (branch rule rest) i j of others [] st = None
  first_paired n (branch rule rest) i j of others (p ∷ ps) st =
      first_of (under n (first_fault rule (paired i j (place of p.0) (place others p.1) st)))
      (first_paired (n + 1) rest i j of others ps st)
