-- Walks over the branches of rules.
use Rattle.std.proofs.Common.{◌≡◌, ℕ, ◌+◌, ◌-◌, ◌<◌, ◌≤◌, max, List, length, drop, get_or, map, arith, refl, ap, ◌∙◌, sym, vec_len, Bool, true, false, ◌&&◌, nat_le, nat_lt, Box, Vec}
use Rattle.std.proofs.lemmas.Bool.{and_parts}
use Rattle.std.proofs.lemmas.List.{drop_all}
use Rattle.std.proofs.lemmas.Bool.Decides.{nat_tests}
use Rattle.refutation.specs.declared.Side.{Side}
use Rattle.refutation.specs.declared.Refutation.{Refutation}
use Rattle.refutation.specs.declared.Refutation.TheVariants.{Open, Pick, Match}
use Rattle.refutation.specs.Rule.{Rule, Branches, dead, clash, open_all, pick, pair_up, split, no_branch, branch, branches_of, branch_count, branch_depth, depth_of, HasLimits, EachHasLimits}
use Rattle.refutation.specs.Limits.{keeps_lists, each_keeps_lists, nodes_of, branch_nodes, is_certificate}
use Rattle.refutation.specs.Refutation.{rule_of}
use Rattle.refutation.proofs.Rules.{branches_step, branch_count-of, rule_of-Open, rule_of-Pick, rule_of-Match}

pub one_level : (d levels : ℕ) → ¬ (levels ≡ 0) → nat_le d (levels - 1) ≡ nat_le (1 + d) levels
one_level d levels h = grind (arith, nat_tests)

from_none : (levels : ℕ) → nat_le 0 levels ≡ true
from_none levels = grind (arith, nat_tests)

max_over : (d e l : ℕ) → nat_le d l ≡ false → nat_le (max d e) l ≡ false
max_over d e l h = grind (arith, nat_tests)

max_under : (d e l : ℕ) → nat_le d l ≡ true → nat_le e l ≡ nat_le (max d e) l
max_under d e l h = grind (arith, nat_tests)

pub depth_over : {A : Type 0} (then : List (Refutation A)) (i levels : ℕ) (x : Refutation A) → i < length then → x ≡ get_or then i x → nat_le (depth_of (rule_of x)) levels ≡ false → nat_le (branch_depth (branches_of (map rule_of (drop i then)))) levels ≡ false
depth_over {A} then i levels x h is over =
    ap (λ (rs : List Rule). nat_le (branch_depth (branches_of rs)) levels) (branches_step then i x h is) ∙ max_over (depth_of (rule_of x)) _ levels over

pub depth_under : {A : Type 0} (then : List (Refutation A)) (i levels : ℕ) (x : Refutation A) → i < length then → x ≡ get_or then i x → nat_le (depth_of (rule_of x)) levels ≡ true → nat_le (branch_depth (branches_of (map rule_of (drop (i + 1) then)))) levels ≡ nat_le (branch_depth (branches_of (map rule_of (drop i then)))) levels
depth_under {A} then i levels x h is under =
    max_under (depth_of (rule_of x)) _ levels under ∙ ap (λ (rs : List Rule). nat_le (branch_depth (branches_of rs)) levels) (sym (branches_step then i x h is))

pub nodes_step : {A : Type 0} (then : List (Refutation A)) (i left : ℕ) (x : Refutation A) → i < length then → x ≡ get_or then i x → left - nodes_of (rule_of x) - branch_nodes (branches_of (map rule_of (drop (i + 1) then))) ≡ left - branch_nodes (branches_of (map rule_of (drop i then)))
nodes_step {A} then i left x h is =
    let counted : branch_nodes (branches_of (map rule_of (drop i then))) ≡ nodes_of (rule_of x) + branch_nodes (branches_of (map rule_of (drop (i + 1) then))) = ap (λ (rs : List Rule). branch_nodes (branches_of rs)) (branches_step then i x h is) in
    omega (arith, counted)

nothing_left : (left rest whole : ℕ) → rest ≡ 0 → left - rest ≡ whole → left ≡ whole
nothing_left left rest whole h e = omega arith

-- no branch is left
pub all_taken : {A : Type 0} (then : List (Refutation A)) (i left whole : ℕ) → length then ≤ i → left - branch_nodes (branches_of (map rule_of (drop i then))) ≡ whole → left ≡ whole
all_taken then i left whole past so_far = nothing_left left (branch_nodes (branches_of (map rule_of (drop i then)))) whole (ap (λ rs. branch_nodes (branches_of (map rule_of rs))) (drop_all i then past)) so_far

taken : (left start room below all : ℕ) → left ≡ start - below → start ≡ room - 1 → all ≡ 1 + below → left ≡ room - all
taken left start room below all h e i = omega arith

-- the room after a rule with one branch
pub opened_room : {A : Type 0} (rule : Refutation A) (side : Side) (item : ℕ) (then : Box (Refutation A) A) (x : Refutation A) (left start room : ℕ) → rule ≡ Open side item then → x ≡ then.value → left ≡ start - nodes_of (rule_of x) → start ≡ room - 1 → left ≡ room - nodes_of (rule_of rule)
opened_room rule side item then x left start room is same h e =
    taken left start room (nodes_of (rule_of x)) (nodes_of (rule_of rule)) h e (ap (λ r. nodes_of (rule_of r)) is ∙ ap nodes_of (rule_of-Open side item then) ∙ ap (λ r. 1 + nodes_of (rule_of r)) (sym same))

-- and after rules with lists of them
pub picked_room : {A : Type 0} (rule : Refutation A) (side : Side) (item : ℕ) (children : Vec ℕ A) (then : Vec (Refutation A) A) (bs : List (Refutation A)) (left start room : ℕ) → rule ≡ Pick side item children then → bs ≡ then.items
    → left ≡ start - branch_nodes (branches_of (map rule_of bs)) → start ≡ room - 1 → left ≡ room - nodes_of (rule_of rule)
picked_room rule side item children then bs left start room is list h e =
    taken left start room (branch_nodes (branches_of (map rule_of bs))) (nodes_of (rule_of rule)) h e
    (ap (λ r. nodes_of (rule_of r)) is ∙ ap nodes_of (rule_of-Pick side item children then) ∙ ap (λ rs. 1 + branch_nodes (branches_of (map rule_of rs))) (sym list))

pub matched_room : {A : Type 0} (rule : Refutation A) (left right : ℕ) (pairs : Vec (ℕ × ℕ) A) (then : Vec (Refutation A) A) (bs : List (Refutation A)) (rest start room : ℕ) → rule ≡ Match left right pairs then → bs ≡ then.items
    → rest ≡ start - branch_nodes (branches_of (map rule_of bs)) → start ≡ room - 1 → rest ≡ room - nodes_of (rule_of rule)
matched_room rule left right pairs then bs rest start room is list h e =
    taken rest start room (branch_nodes (branches_of (map rule_of bs))) (nodes_of (rule_of rule)) h e
    (ap (λ r. nodes_of (rule_of r)) is ∙ ap nodes_of (rule_of-Match left right pairs then) ∙ ap (λ rs. 1 + branch_nodes (branches_of (map rule_of rs))) (sym list))

within : (n limit : ℕ) → nat_le n limit ≡ true → n ≤ limit
within n limit h = grind (arith, nat_tests)

below : (n limit : ℕ) → nat_lt n limit ≡ true → n < limit
below n limit h = grind (arith, nat_tests)

mutual
  pub HasLimits-kept : (r : Rule) → keeps_lists r ≡ true → HasLimits r
  HasLimits-kept (dead side i) h = tt
  HasLimits-kept (clash i j) h = tt
  HasLimits-kept (open_all side i rule) h = HasLimits-kept rule h
  HasLimits-kept (pick side i children branches) h =
      let parts = and_parts _ _ h in
      let more = and_parts _ _ parts.1 in
      (within (branch_count branches) 255 more.0, EachHasLimits-kept branches more.1)
  HasLimits-kept (pair_up i j pairs branches) h =
      let parts = and_parts _ _ h in
      let more = and_parts _ _ parts.1 in
      (within (branch_count branches) 255 more.0, EachHasLimits-kept branches more.1)
  HasLimits-kept (split x left right) h =
      let parts = and_parts _ _ h in
      let more = and_parts _ _ parts.1 in
      (below x 64 parts.0, HasLimits-kept left more.0, HasLimits-kept right more.1)

  pub EachHasLimits-kept : (bs : Branches) → each_keeps_lists bs ≡ true → EachHasLimits bs
  EachHasLimits-kept no_branch h = tt
  EachHasLimits-kept (branch rule rest) h =
      let parts = and_parts _ _ h in
      (HasLimits-kept rule parts.0, EachHasLimits-kept rest parts.1)

pub HasLimits-certificate : (r : Rule) → is_certificate r ≡ true → HasLimits r
HasLimits-certificate r h =
    let parts = and_parts (nat_le (depth_of r) 40) _ h in
    HasLimits-kept r (and_parts (keeps_lists r) _ parts.1).0

both_short : (x y : Bool) (rest : Bool) → (x && (y && rest)) ≡ ((x && y) && rest)
both_short true y rest = refl
both_short false y rest = refl

entries_kept : {A : Type 0} (entries n m : ℕ) (then : Vec (Refutation A) A) → n ≡ entries → m ≡ vec_len then → (nat_le entries 255 && (nat_le (branch_count (branches_of (map rule_of then.items))) 255 && each_keeps_lists (branches_of (map rule_of then.items)))) ≡ ((nat_le n 255 && nat_le m 255) && each_keeps_lists (branches_of (map rule_of then.items)))
entries_kept entries n m then is are =
    both_short (nat_le entries 255) _ _
    ∙ (λ i. (nat_le (sym is i) 255 && nat_le ((branch_count-of then.items ∙ sym then.ok.0 ∙ sym are) i) 255) && each_keeps_lists (branches_of (map rule_of then.items)))

pub pick_kept : {A : Type 0} (rule : Refutation A) (side : Side) (item : ℕ) (children : Vec ℕ A) (then : Vec (Refutation A) A) (n m : ℕ) → rule ≡ Pick side item children then → n ≡ vec_len children → m ≡ vec_len then → keeps_lists (rule_of rule) ≡ ((nat_le n 255 && nat_le m 255) && each_keeps_lists (branches_of (map rule_of then.items)))
pick_kept rule side item children then n m is count branches =
    ap (λ r. keeps_lists (rule_of r)) is ∙ ap keeps_lists (rule_of-Pick side item children then)
    ∙ entries_kept (length children.items) n m then (count ∙ children.ok.0) branches

pub match_kept : {A : Type 0} (rule : Refutation A) (left right : ℕ) (pairs : Vec (ℕ × ℕ) A) (then : Vec (Refutation A) A) (n m : ℕ) → rule ≡ Match left right pairs then → n ≡ vec_len pairs → m ≡ vec_len then → keeps_lists (rule_of rule) ≡ ((nat_le n 255 && nat_le m 255) && each_keeps_lists (branches_of (map rule_of then.items)))
match_kept rule left right pairs then n m is count branches =
    ap (λ r. keeps_lists (rule_of r)) is ∙ ap keeps_lists (rule_of-Match left right pairs then)
    ∙ entries_kept (length pairs.items) n m then (count ∙ pairs.ok.0) branches

-- the branch at hand, and those after it
kept_step : {A : Type 0} (then : List (Refutation A)) (i : ℕ) (x : Refutation A) → i < length then → x ≡ get_or then i x → each_keeps_lists (branches_of (map rule_of (drop i then))) ≡ (keeps_lists (rule_of x) && each_keeps_lists (branches_of (map rule_of (drop (i + 1) then))))
kept_step then i x h is = ap (λ (rs : List Rule). each_keeps_lists (branches_of rs)) (branches_step then i x h is)

pub kept_over : {A : Type 0} (then : List (Refutation A)) (i : ℕ) (x : Refutation A) (whole : Bool) → i < length then → x ≡ get_or then i x → keeps_lists (rule_of x) ≡ false → each_keeps_lists (branches_of (map rule_of (drop i then))) ≡ whole → false ≡ whole
kept_over then i x whole h is fails so_far = sym (kept_step then i x h is ∙ ap (λ b. b && each_keeps_lists (branches_of (map rule_of (drop (i + 1) then)))) fails) ∙ so_far

pub kept_under : {A : Type 0} (then : List (Refutation A)) (i : ℕ) (x : Refutation A) (whole : Bool) → i < length then → x ≡ get_or then i x → keeps_lists (rule_of x) ≡ true → each_keeps_lists (branches_of (map rule_of (drop i then))) ≡ whole → each_keeps_lists (branches_of (map rule_of (drop (i + 1) then))) ≡ whole
kept_under then i x whole h is keeps so_far = sym (kept_step then i x h is ∙ ap (λ b. b && each_keeps_lists (branches_of (map rule_of (drop (i + 1) then)))) keeps) ∙ so_far

pub all_kept : {A : Type 0} (then : List (Refutation A)) (i : ℕ) (whole : Bool) → length then ≤ i → each_keeps_lists (branches_of (map rule_of (drop i then))) ≡ whole → true ≡ whole
all_kept then i whole past so_far = sym (ap (λ rs. each_keeps_lists (branches_of (map rule_of rs))) (drop_all i then past)) ∙ so_far

-- nothing is deeper than no branch
pub all_shallow : {A : Type 0} (then : List (Refutation A)) (i levels : ℕ) (whole : Bool) → length then ≤ i → nat_le (branch_depth (branches_of (map rule_of (drop i then)))) levels ≡ whole → true ≡ whole
all_shallow then i levels whole past so_far = sym (ap (λ rs. nat_le (branch_depth (branches_of (map rule_of rs))) levels) (drop_all i then past) ∙ from_none levels) ∙ so_far

pub opened_kept : {A : Type 0} (rule : Refutation A) (side : Side) (item : ℕ) (then : Box (Refutation A) A) (x : Refutation A) (b : Bool) → rule ≡ Open side item then → x ≡ then.value → b ≡ keeps_lists (rule_of x) → b ≡ keeps_lists (rule_of rule)
opened_kept rule side item then x b is same h = h ∙ sym (ap (λ r. keeps_lists (rule_of r)) is ∙ ap keeps_lists (rule_of-Open side item then) ∙ ap (λ r. keeps_lists (rule_of r)) (sym same))

pub opened_shallow : {A : Type 0} (rule : Refutation A) (side : Side) (item levels : ℕ) (then : Box (Refutation A) A) (x : Refutation A) (b : Bool) → rule ≡ Open side item then → x ≡ then.value → ¬ (levels ≡ 0) → b ≡ nat_le (depth_of (rule_of x)) (levels - 1) → b ≡ nat_le (depth_of (rule_of rule)) levels
opened_shallow rule side item levels then x b is same some h =
    h ∙ one_level (depth_of (rule_of x)) levels some ∙ sym (ap (λ r. nat_le (depth_of (rule_of r)) levels) is ∙ ap (λ r. nat_le (depth_of r) levels) (rule_of-Open side item then) ∙ ap (λ r. nat_le (1 + depth_of (rule_of r)) levels) (sym same))

pub no_level : (r : Rule) (levels : ℕ) → levels ≡ 0 → false ≡ nat_le (depth_of r) levels
no_level r levels none = deep (depth_of r) levels (positive r) none
  where
    deep : (d l : ℕ) → 0 < d → l ≡ 0 → false ≡ nat_le d l
    deep d l h e = grind (arith, nat_tests)

    positive : (r : Rule) → 0 < depth_of r
    positive (dead side i) = omega arith
    positive rule = omega arith

pub and_true : (kept short given rest : Bool) → kept ≡ (given && rest) → short ≡ given → short ≡ true → rest ≡ kept
and_true kept short given rest e is h = sym (e ∙ ap (λ b. b && rest) (sym is ∙ h))

pub and_false : (kept short given rest : Bool) → kept ≡ (given && rest) → short ≡ given → short ≡ false → short ≡ kept
and_false kept short given rest e is h = h ∙ sym (e ∙ ap (λ b. b && rest) (sym is ∙ h))
