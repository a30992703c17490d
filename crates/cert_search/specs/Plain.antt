-- Claims that are true because enough members are equal.
use Rattle.std.specs.Prelude.{ℕ, ◌+◌, ◌==◌, Bool, false, List, [], ◌∷◌, Option, Some, None, map, option_map, slice_index_or}
use Rattle.std.specs.List.{position_from}
use Rattle.volume_model.specs.Common.{Formula, at_least}
use Rattle.volume_model.specs.Formula.{member}
use Rattle.refutation.specs.Common.{Rule, clash, pair_up, branches_of}
use Rattle.quorum_checker.specs.FirstFault.{children_of}
use Rattle.quorum_checker.specs.Refutes.{State, Refutes}

-- the formula is this member
abbrev pub is_member : ℕ → Formula → Bool
is_member x (member y) = y == x
is_member x (at_least k of) = false

-- the place of the first formula that is this member
abbrev pub place_of : ℕ → List Formula → Option ℕ
place_of x = position_from (is_member x) 0

-- the place of a member, and the place of an equal one among the others, if there is one
abbrev pub pair_at : ℕ → Formula → List Formula → Option (ℕ × ℕ)
pair_at i (member x) others = option_map (λ j. (i, j)) (place_of x others)
pair_at i (at_least k of) others = None

-- the list with one more element in front, if there is one
abbrev pub onto : {A : Type 0} → Option A → List A → List A
onto None xs = xs
onto (Some x) xs = x ∷ xs

-- the places of equal members of two lists; the first list begins with place i
abbrev pub equal_pairs : ℕ → List Formula → List Formula → List (ℕ × ℕ)
equal_pairs i [] others = []
equal_pairs i (f ∷ fs) others = onto (pair_at i f others) (equal_pairs (i + 1) fs others)

-- a clash of the only items for each pair
abbrev pub clashes : List (ℕ × ℕ) → List Rule
clashes = map (λ p. clash 0 0)

-- the match of all pairs of equal members, each closed by a clash
abbrev pub plain_rule : Formula → Formula → Rule
plain_rule left right = let pairs = equal_pairs 0 (children_of left) (children_of right) in pair_up 0 0 pairs (branches_of (clashes pairs))

-- the first item
abbrev pub first_item : List Formula → Formula
first_item items = slice_index_or items 0 (member 0)

-- A claim is plain if the match of its equal members refutes it: two thresholds over members, of which enough are
-- equal.
abbrev pub IsPlain : State → Type 0
IsPlain st = Refutes (plain_rule (first_item st.left) (first_item st.right)) st
