-- The meaning of a claim: each read set has a member in common with each write set.
use Rattle.std.specs.Prelude.{◌≡◌, ℕ, ◌<◌, true}
use Rattle.std.specs.Ordering.{nat_cmp}
use Rattle.std.specs.FinSet.{FinSet, contains}
use Rattle.volume_model.specs.Formula.{Formula, Members, sat}

-- members are the numbers below 64
abbrev pub AreMembers : Members → Type 0
AreMembers s = (x : ℕ) → s x ≡ true → x < 64

-- no member is in both sets
abbrev pub AreDisjoint : Members → Members → Type 0
AreDisjoint s t = (x : ℕ) → s x ≡ true → t x ≡ true → ⊥

-- There are no two disjoint sets of members of which the first satisfies the one formula and the second the other, and
-- the first has no member of the given set.
abbrev pub Meets : Formula → Formula → FinSet nat_cmp → Type 0
Meets read write clear =
    (r w : Members) → AreMembers r → AreMembers w → AreDisjoint r w → AreDisjoint r (contains clear)
    → sat read r ≡ true → sat write w ≡ true → ⊥
