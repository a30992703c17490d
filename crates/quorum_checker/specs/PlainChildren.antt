-- Thresholds over different members that weigh one each.
use Rattle.std.specs.Prelude.{Bool, true, false, ◌&&◌, not, nat_eq}
use Rattle.std.specs.Ordering.{nat_cmp}
use Rattle.std.specs.FinSet.{FinSet, contains, insert}
use Rattle.volume_model.specs.Common.{Children, at_least, no_child, child}
use Rattle.volume_model.specs.Formula.{member}

-- The children are members of a set that weigh one each, each of them once, and none of those that were seen before.
abbrev pub are_plain : Children → FinSet nat_cmp → FinSet nat_cmp → Bool
are_plain no_child own seen = true
are_plain (child w (member x) fs) own seen = (nat_eq w 1 && (contains own x && not (contains seen x))) && are_plain fs
    own (insert seen x)
are_plain (child w (at_least k of) fs) own seen = false
