-- A valid expression holds in the set of all members, and what meets it in no empty set
use Rattle.std.proofs.Common.{◌≡◌, ℕ, ◌+◌, ◌≤◌, Bool, true, false, nat_le, if◌then◌else◌, refl, sym, arith, true≢false, le-leb}
use Rattle.volume_model.specs.Common.{Formula, Children, Members, at_least, no_child, child, sat, weight_held, total_weight, HasCounts, EachHasCounts, HaveCommonMember}
use Rattle.volume_model.specs.Formula.{member}

-- the expression holds in no empty set
abbrev pub IsFilled : Formula → Type 0
IsFilled write = (s : Members) → sat write s ≡ true → (x : ℕ) × (s x ≡ true)

-- the set of all
abbrev all_members : Members
all_members x = true

reached_by : (k held total : ℕ) → held ≡ total → k ≤ total → nat_le k held ≡ true
reached_by k held total e l = le-leb k held (omega arith)

weigh_one : (b : Bool) (w n m : ℕ) → b ≡ true → n ≡ m → (if b then w else 0) + n ≡ w + m
weigh_one true w n m h e = omega arith
weigh_one false w n m h e = absurd (true≢false (sym h))

mutual
  sat_all : (f : Formula) → HasCounts f → sat f all_members ≡ true
  sat_all (member x) h = refl
  sat_all (at_least k of) h = reached_by k (weight_held of all_members) (total_weight of) (weight_held-all of h.3) h.1

  weight_held-all : (of : Children) → EachHasCounts of → weight_held of all_members ≡ total_weight of
  weight_held-all no_child h = refl
  weight_held-all (child w f fs) h = weigh_one (sat f all_members) w (weight_held fs all_members) (total_weight fs) (sat_all f h.0) (weight_held-all fs h.1)

-- so what each read set meets holds in no empty set
pub filled : (read write : Formula) → HasCounts read → HaveCommonMember read write → IsFilled write
filled read write counts meets s h = let (x, a, b) = meets all_members s (sat_all read counts) h in (x, b)
