-- The bytes of a certificate's text. A comma is counted after each entry of a list and each rule.
use Rattle.std.specs.Prelude.{ℕ, ◌+◌, ◌-◌, nat_lt, if◌then◌else◌, List, [], ◌∷◌, Option, Some, None}
use Rattle.refutation.specs.declared.Side.{Side}
use Rattle.refutation.specs.declared.Side.TheVariants.{Left, Right}
use Rattle.refutation.specs.Common.{Rule, Branches, dead, clash, open_all, pick, pair_up, split, no_branch, branch}

-- the number of digits of a number below 100,000
abbrev pub digits : ℕ → ℕ
digits n = if nat_lt n 10 then 1 else if nat_lt n 100 then 2 else if nat_lt n 1000 then 3 else if nat_lt n 10000 then 4
    else 5

-- the length of a side's name
abbrev pub name_length : Side → ℕ
name_length Left = 4
name_length Right = 5

-- the length of a list of numbers
abbrev pub numbers_length : List ℕ → ℕ
numbers_length [] = 0
numbers_length (n ∷ ns) = 1 + digits n + numbers_length ns

-- the length of a list of pairs
abbrev pub pairs_length : List (ℕ × ℕ) → ℕ
pairs_length [] = 0
pairs_length (p ∷ ps) = 4 + digits p.0 + digits p.1 + pairs_length ps

-- the length of a rule without its branches
abbrev pub head_length : Rule → ℕ
head_length (dead side i) = 34 + name_length side + digits i
head_length (clash i j) = 34 + digits i + digits j
head_length (open_all side i rule) = 42 + name_length side + digits i
head_length (pick side i children branches) = 58 + name_length side + digits i + numbers_length children
head_length (pair_up i j pairs branches) = 55 + digits i + digits j + pairs_length pairs
head_length (split x left right) = 44 + digits x

abbrev mutual
  -- the length of a rule with its branches
  pub rule_length : Rule → ℕ
  rule_length (dead side i) = head_length (dead side i)
  rule_length (clash i j) = head_length (clash i j)
  rule_length (open_all side i rule) = head_length (open_all side i rule) + rule_length rule
  rule_length (pick side i children branches) = head_length (pick side i children branches) + branches_length branches
  rule_length (pair_up i j pairs branches) = head_length (pair_up i j pairs branches) + branches_length branches
  rule_length (split x left right) = head_length (split x left right) + rule_length left + rule_length right

  -- the length of branches
  pub branches_length : Branches → ℕ
  branches_length no_branch = 0
  branches_length (branch rule rest) = rule_length rule + branches_length rest

-- the length of a rule, at most 16,777,217: one more than a plan's text may have
abbrev pub length_of : Rule → ℕ
length_of rule = 16777217 - (16777217 - rule_length rule)

-- the length of an answer, 0 if it is None
abbrev pub length_in : Option Rule → ℕ
length_in None = 0
length_in (Some rule) = length_of rule
