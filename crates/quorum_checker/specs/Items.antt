-- The formulas of a state's items.
use Rattle.std.specs.Prelude.{◌≡◌, ℕ, Bool, if◌then◌else◌, List, map, Result, Ok, Err, Some, None, slice_get}
use Rattle.quorum_expr.specs.declared.expression.Expr.{Expr}
use Rattle.volume_model.specs.Common.{Formula, Children, at_least, total_weight, dual_of}
use Rattle.volume_model.specs.Formula.{member}
use Rattle.quorum_expr.specs.Common.{formula_of, weighed}
use Rattle.quorum_checker.specs.declared.item.Item.{Item}
use Rattle.quorum_checker.specs.declared.item.Threshold.{Threshold}
use Rattle.quorum_checker.specs.declared.items.Items.{Items}
use Rattle.volume_model.specs.declared.fault.Fault.TheVariants.{NoSuchItem}
use Rattle.quorum_checker.specs.declared.fault.FaultAt.{FaultAt}
use Rattle.quorum_checker.specs.Refutes.{State}
use Rattle.quorum_checker.specs.FirstFault.{here}

-- the formula of an expression, or the dual of it
abbrev pub shown_as : {A : Type 0} → Bool → Expr A → Formula
shown_as is_dual e = (if is_dual then dual_of (formula_of e) else formula_of e)

-- the formula of an item
abbrev pub shown : {A : Type 0} → Item A → Formula
shown item = shown_as item.is_dual item.expr.now

-- the state of the lists of items
abbrev pub state_of : {A : Type 0} → Items A → State
state_of items = record {
  left = map shown items.left.items;
  right = map shown items.right.items;
  absent_left = items.absent_left;
  absent_right = items.absent_right;
}

-- the result is the item with a number, or an error if there is none
abbrev pub FindsItem : {A : Type 0} → Result (Item A) FaultAt → List Formula → ℕ → Type 0
FindsItem (Ok item) items at = slice_get items at ≡ Some (shown item)
FindsItem (Err e) items at = (slice_get items at ≡ None) × (e ≡ here NoSuchItem)

-- the formula is a member
abbrev pub IsMember : Formula → Type 0
IsMember f = (x : ℕ) × (f ≡ member x)

-- children of which only the weights matter
abbrev pub bare : {X : Type 0} → List (ℕ × X) → Children
bare = weighed (λ x. member 0)

-- the formula is this threshold, over its children or over their duals
abbrev pub IsThreshold : {A : Type 0} → Bool → Formula → Threshold A → Type 0
IsThreshold is_dual f t = (f ≡ at_least t.asked (weighed (shown_as is_dual) t.of.now))
    × (t.total ≡ total_weight (bare t.of.now))
