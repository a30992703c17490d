-- Formulas in which a member was replaced.
use Rattle.std.specs.Prelude.{ℕ, ◌==◌, if◌then◌else◌}
use Rattle.volume_model.specs.Common.{Formula, Children, at_least, no_child, child}
use Rattle.volume_model.specs.Formula.{member}

-- the member that stands in a member's place
abbrev pub renamed_member : ℕ → ℕ → ℕ → ℕ
renamed_member old new x = if x == old then new else x

-- the formula with the member new in the places of old
abbrev mutual
  pub renamed : ℕ → ℕ → Formula → Formula
  renamed old new (member x) = member (renamed_member old new x)
  renamed old new (at_least k of) = at_least k (each_renamed old new of)

  -- the same of each child; the weights stay
  pub each_renamed : ℕ → ℕ → Children → Children
  each_renamed old new no_child = no_child
  each_renamed old new (child w f fs) = child w (renamed old new f) (each_renamed old new fs)

-- at least k of two formulas hold
abbrev pub two_of : ℕ → Formula → Formula → Formula
two_of k f g = at_least k (child 1 f (child 1 g no_child))
