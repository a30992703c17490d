-- The members that a formula names.
use Rattle.std.specs.Prelude.{nat_lt, if◌then◌else◌}
use Rattle.std.specs.Ordering.{nat_cmp}
use Rattle.std.specs.FinSet.{FinSet, empty, insert, union}
use Rattle.volume_model.specs.Common.{Formula, Children, at_least, no_child, child}
use Rattle.volume_model.specs.Formula.{member}

-- the members, below 64, that a formula names
abbrev mutual
  pub named : Formula → FinSet nat_cmp
  named (member x) = (if nat_lt x 64 then insert empty x else empty)
  named (at_least k of) = named_by of empty

  -- the members that the children name, added to s
  pub named_by : Children → FinSet nat_cmp → FinSet nat_cmp
  named_by no_child s = s
  named_by (child w f fs) s = named_by fs (union s (named f))
