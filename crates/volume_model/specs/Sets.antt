-- Sets of numbers, and the members of one as a list.
use Rattle.std.specs.Prelude.{ℕ, List}
use Rattle.std.specs.Ordering.{nat_cmp}
use Rattle.std.specs.FinSet.{FinSet, contains}
use Rattle.volume_model.specs.Lists.{each_below}

-- the members of a set, which are below 64, in growing order
abbrev pub listed : FinSet nat_cmp → List ℕ
listed s = each_below 64 (contains s) (λ x. x)
