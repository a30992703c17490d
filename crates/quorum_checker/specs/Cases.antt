-- The search by cases: each member is absent from one or the other of two disjoint sets.
use Rattle.std.specs.Prelude.{ℕ, ◌<◌, if◌then◌else◌, List, [], ◌∷◌}
use Rattle.std.specs.Ordering.{nat_cmp}
use Rattle.std.specs.FinSet.{FinSet, contains, insert, difference}
use Rattle.volume_model.specs.Common.{Formula, Members, sat}
use Rattle.quorum_expr.specs.Common.{all_members}
use Rattle.refutation.specs.Common.{Rule, dead, split}
use Rattle.refutation.specs.declared.Side.TheVariants.{Left, Right}
use Rattle.quorum_checker.specs.Refutes.{State}

-- the result of trying all cases: a rule, or the members absent from each of two sets that satisfy their sides
pub data Cases : Type 0 where
  refuted : Rule → Cases
  apart : FinSet nat_cmp → FinSet nat_cmp → Cases

-- the members that aren't absent
abbrev pub present : FinSet nat_cmp → Members
present absent = contains (difference all_members absent)

-- the cases end if one side can't be satisfied by the members that aren't absent; else they go on with rest
abbrev pub ends : Formula → Formula → FinSet nat_cmp → FinSet nat_cmp → Cases → Cases
ends f g a b rest = if sat f (present a) then (if sat g (present b) then rest else refuted (dead Right 0)) else refuted
    (dead Left 0)

-- all members are below 64
abbrev pub AreSmall : List ℕ → Type 0
AreSmall [] = Unit {0}
AreSmall (m ∷ ms) = (m < 64) × AreSmall ms

-- the result of both cases of a member: the first that isn't refuted, else a split rule
abbrev pub both : ℕ → Cases → Cases → Cases
both x (apart a b) r = apart a b
both x (refuted l) (apart a b) = apart a b
both x (refuted l) (refuted r) = refuted (split x l r)

-- the result of trying all cases of these members
unfoldable pub cases : List ℕ → Formula → Formula → FinSet nat_cmp → FinSet nat_cmp → Cases
cases [] f g a b = ends f g a b (apart a b)
cases (x ∷ xs) f g a b = ends f g a b (both x (cases xs f g (insert a x) b) (cases xs f g a (insert b x)))

-- the state of two formulas, with the members absent from each side
abbrev pub state_of : Formula → Formula → FinSet nat_cmp → FinSet nat_cmp → State
state_of f g a b = record { left = f ∷ []; right = g ∷ []; absent_left = a; absent_right = b }
