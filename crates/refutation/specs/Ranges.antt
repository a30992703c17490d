-- The ranges of the numbers in certificates.
use Rattle.std.specs.Prelude.{ℕ, ◌≤◌, All}
use Rattle.refutation.specs.Rule.{Rule, Branches, dead, clash, open_all, pick, pair_up, split, no_branch, branch}

-- both numbers of children are at most 255
abbrev pub IsPairInRange : ℕ × ℕ → Type 0
IsPairInRange p = (p.0 ≤ 255) × (p.1 ≤ 255)

-- Numbers of items are at most 65,535, and those of children at most 255.
abbrev mutual
  pub HasRanges : Rule → Type 0
  HasRanges (dead side i) = i ≤ 65535
  HasRanges (clash i j) = (i ≤ 65535) × (j ≤ 65535)
  HasRanges (open_all side i rule) = (i ≤ 65535) × HasRanges rule
  HasRanges (pick side i children branches) = (i ≤ 65535) × All (λ c. c ≤ 255) children × EachHasRanges branches
  HasRanges (pair_up i j pairs branches) = (i ≤ 65535) × (j ≤ 65535) × All IsPairInRange pairs × EachHasRanges branches
  HasRanges (split x left right) = HasRanges left × HasRanges right

  -- the same for each branch
  pub EachHasRanges : Branches → Type 0
  EachHasRanges no_branch = Unit {0}
  EachHasRanges (branch rule rest) = HasRanges rule × EachHasRanges rest
