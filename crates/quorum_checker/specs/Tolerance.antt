-- How many members a formula can lose.
use Rattle.std.specs.Prelude.{◌≡◌, ℕ, zero, suc, ◌+◌, ◌<◌, ◌≤◌, Bool, true, false, not, ◌&&◌, ◌||◌, nat_eq, if◌then◌else◌, List, [], ◌∷◌, length}
use Rattle.std.specs.Ordering.{nat_cmp}
use Rattle.std.specs.FinSet.{FinSet, contains, difference, remove}
use Rattle.volume_model.specs.Common.{Formula, Members, sat, listed}

-- the members of a set as a list
unfoldable pub all_of : FinSet nat_cmp → List ℕ
all_of s = listed s

-- the number of members of a set
unfoldable pub count_of : FinSet nat_cmp → ℕ
count_of s = length (listed s)

-- how many of these members are lost
abbrev pub taken : Members → List ℕ → ℕ
taken loss [] = 0
taken loss (x ∷ xs) = (if loss x then 1 else 0) + taken loss xs

-- the members of a set that aren't lost
abbrev pub left_by : Members → FinSet nat_cmp → Members
left_by loss members x = contains members x && not (loss x)

-- A smallest loss that stops a formula: any loss of fewer members leaves it satisfied.
pub record IsLeastLoss (f : Formula) (members : FinSet nat_cmp) (lost : FinSet nat_cmp) : Type 0 where
  pub stops : sat f (contains (difference members lost)) ≡ false
  pub least : (loss : Members) → taken loss (all_of members) < count_of lost → sat f (left_by loss members) ≡ true

-- a loss that stops the formula, and has at most this many members
pub record IsLoss (f : Formula) (members gone : FinSet nat_cmp) (size : ℕ) : Type 0 where
  pub stops : sat f (contains (difference members gone)) ≡ false
  pub sized : count_of gone ≤ size

-- the member is one of the list and lost
abbrev pub takes : Members → List ℕ → ℕ → Bool
takes loss [] y = false
takes loss (x ∷ xs) y = (nat_eq y x && loss x) || takes loss xs y

-- the members of a set without those of the list that are lost
abbrev pub left_of : Members → List ℕ → FinSet nat_cmp → Members
left_of loss rest members y = contains members y && not (takes loss rest y)

-- After gone members are lost, any loss among the rest that keeps the total below size leaves the formula satisfied;
-- and size is at most best.
pub record IsLeastAfter (f : Formula) (left : FinSet nat_cmp) (rest : List ℕ) (gone best size : ℕ) : Type 0 where
  pub better : size ≤ best
  pub least : (loss : Members) → gone + taken loss rest < size → sat f (left_of loss rest left) ≡ true

-- the most evaluations of the formula in a search over n members
abbrev pub evaluations : ℕ → ℕ
evaluations zero = 1
evaluations (suc n) = 1 + evaluations n + evaluations n

-- the loss of this member alone stops the formula
abbrev pub is_stopping : Formula → FinSet nat_cmp → ℕ → Bool
is_stopping f members x = contains members x && not (sat f (contains (remove members x)))
