-- How deep the JSON of a certificate nests.
use Rattle.std.proofs.Common.{ℕ, ◌+◌, ◌*◌, ◌≤◌, List, [], ◌∷◌, arith}
use Rattle.serde_json.specs.Data.{depth, items_depth}
use Rattle.refutation.specs.Rule.{Rule, Branches, dead, clash, open_all, pick, pair_up, split, no_branch, branch, depth_of, branch_depth}
use Rattle.refutation.specs.Writing.{numbers_data, pairs_data, certificate_data, branches_data}

numbers-nest : (ns : List ℕ) → items_depth (numbers_data ns) ≤ 0
numbers-nest [] = omega arith
numbers-nest (n ∷ ns) = omega (arith, numbers-nest ns)

pairs-nest : (ps : List (ℕ × ℕ)) → items_depth (pairs_data ps) ≤ 1
pairs-nest [] = omega arith
pairs-nest (p ∷ ps) = omega (arith, pairs-nest ps)

mutual
  pub certificate-nests : (r : Rule) → depth (certificate_data r) ≤ 2 * depth_of r + 1
  certificate-nests (dead side i) = omega arith
  certificate-nests (clash i j) = omega arith
  certificate-nests (open_all side i rule) = omega (arith, certificate-nests rule)
  certificate-nests (pick side i children branches) = omega (arith, numbers-nest children, branches-nest branches)
  certificate-nests (pair_up i j pairs branches) = omega (arith, pairs-nest pairs, branches-nest branches)
  certificate-nests (split x left right) = omega (arith, certificate-nests left, certificate-nests right)

  branches-nest : (bs : Branches) → items_depth (branches_data bs) ≤ 2 * branch_depth bs + 1
  branches-nest no_branch = omega arith
  branches-nest (branch rule rest) = omega (arith, certificate-nests rule, branches-nest rest)
