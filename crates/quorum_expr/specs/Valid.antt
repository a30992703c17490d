-- Which expressions are valid, and the first fault of one that isn't.
use Rattle.std.specs.Prelude.{ℕ, ◌+◌, ◌-◌, Bool, true, ◌&&◌, ◌==◌, nat_lt, nat_le, if◌then◌else◌, Option, Some, None, length}
use Rattle.volume_model.specs.declared.fault.Fault.{Fault}
use Rattle.volume_model.specs.declared.fault.Fault.TheVariants.{BadCount, TooDeep, NotAMember, OverLimit}
use Rattle.volume_model.specs.Common.{Formula, Children, at_least, no_child, child, formulas, total_weight}
use Rattle.volume_model.specs.Formula.{member}

-- the first fault if there is one, else the next
abbrev pub or_then : Option Fault → Option Fault → Option Fault
or_then None next = next
or_then (Some fault) next = Some fault

-- each child has a weight of 1 to 255
abbrev pub each_fits : Children → Bool
each_fits no_child = true
each_fits (child w f fs) = nat_le 1 w && (nat_le w 255 && each_fits fs)

-- a threshold from 1 to the weight of all children, of which there are at most 64
abbrev pub good_threshold : ℕ → ℕ → ℕ → Bool
good_threshold k weight children = nat_le 1 k && (nat_le k weight && nat_le children 64)

-- a valid threshold, with weights of 1 to 255
abbrev pub good_choice : ℕ → Children → Bool
good_choice k of = each_fits of && good_threshold k (total_weight of) (length (formulas of))

-- the first fault of a formula that may have this many levels, outer ones before inner ones
abbrev mutual
  pub shape_fault : Formula → ℕ → Option Fault
  shape_fault (member x) levels = (if levels == 0 then Some TooDeep else (if nat_lt x 64 then None else Some
      NotAMember))
  shape_fault (at_least k of) levels =
      (if levels == 0 then Some TooDeep else (if good_choice k of then row_fault of (levels - 1) else Some BadCount))

  -- the first fault of children, in order
  pub row_fault : Children → ℕ → Option Fault
  row_fault no_child levels = None
  row_fault (child w f fs) levels = or_then (shape_fault f levels) (row_fault fs levels)

-- the number of members and thresholds of a formula
abbrev mutual
  pub nodes : Formula → ℕ
  nodes (member x) = 1
  nodes (at_least k of) = 1 + row_nodes of

  -- the number of members and thresholds of all children
  pub row_nodes : Children → ℕ
  row_nodes no_child = 0
  row_nodes (child w f fs) = nodes f + row_nodes fs

-- The first fault of a formula, if any. At each node are tested: at most six levels, valid thresholds and weights,
-- members below 64. At most 4,096 nodes are tested last.
abbrev pub expression_fault : Formula → Option Fault
expression_fault f = or_then (shape_fault f 6) (if nat_le (nodes f) 4096 then None else Some OverLimit)
