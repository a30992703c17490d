-- Witnesses, which show that a claim fails.
use Rattle.std.specs.Prelude.{◌≡◌, true}
use Rattle.std.specs.Ordering.{nat_cmp}
use Rattle.std.specs.FinSet.{FinSet, contains}
use Rattle.volume_model.specs.Common.{Formula, sat, AreMembers, AreDisjoint}
use Rattle.quorum_expr.specs.Common.{formula_of}
use Rattle.quorum_checker.specs.declared.claim.Claim.{Claim}
use Rattle.quorum_checker.specs.declared.showing.Witness.{Witness}

-- two disjoint sets of members that satisfy the formulas; the first has none of the given members
pub record IsWitness (left right : Formula) (clear : FinSet nat_cmp) (w : Witness) : Type 0 where
  pub left_members : AreMembers (contains w.left)
  pub right_members : AreMembers (contains w.right)
  pub disjoint : AreDisjoint (contains w.left) (contains w.right)
  pub clear_of : AreDisjoint (contains w.left) (contains clear)
  pub satisfies_left : sat left (contains w.left) ≡ true
  pub satisfies_right : sat right (contains w.right) ≡ true

-- a witness of a claim
abbrev pub IsWitnessOf : {A : Type 0} → Claim A → Witness → Type 0
IsWitnessOf claim w = IsWitness (formula_of claim.left) (formula_of claim.right) claim.clear w
