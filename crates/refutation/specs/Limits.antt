-- The limits of a certificate.
use Rattle.std.specs.Prelude.{ℕ, ◌+◌, Bool, true, ◌&&◌, nat_lt, nat_le, length}
use Rattle.refutation.specs.Rule.{Rule, Branches, dead, clash, open_all, pick, pair_up, split, no_branch, branch, branch_count, depth_of}

-- the number of rules in a tree of rules
abbrev mutual
  pub nodes_of : Rule → ℕ
  nodes_of (dead side i) = 1
  nodes_of (clash i j) = 1
  nodes_of (open_all side i rule) = 1 + nodes_of rule
  nodes_of (pick side i children branches) = 1 + branch_nodes branches
  nodes_of (pair_up i j pairs branches) = 1 + branch_nodes branches
  nodes_of (split x left right) = 1 + nodes_of left + nodes_of right

  -- the number of rules in all branches
  pub branch_nodes : Branches → ℕ
  branch_nodes no_branch = 0
  branch_nodes (branch rule rest) = nodes_of rule + branch_nodes rest

-- No list has more than 255 entries, and members are below 64.
abbrev mutual
  pub keeps_lists : Rule → Bool
  keeps_lists (dead side i) = true
  keeps_lists (clash i j) = true
  keeps_lists (open_all side i rule) = keeps_lists rule
  keeps_lists (pick side i children branches) = nat_le (length children) 255 && (nat_le (branch_count branches) 255 &&
      each_keeps_lists branches)
  keeps_lists (pair_up i j pairs branches) = nat_le (length pairs) 255 && (nat_le (branch_count branches) 255 &&
      each_keeps_lists branches)
  keeps_lists (split x left right) = nat_lt x 64 && (keeps_lists left && keeps_lists right)

  -- the same for each branch
  pub each_keeps_lists : Branches → Bool
  each_keeps_lists no_branch = true
  each_keeps_lists (branch rule rest) = keeps_lists rule && each_keeps_lists rest

-- at most 40 levels, no list with more than 255 entries, and at most 100,000 rules
abbrev pub is_certificate : Rule → Bool
is_certificate rule = nat_le (depth_of rule) 40 && (keeps_lists rule && nat_le (nodes_of rule) 100000)
