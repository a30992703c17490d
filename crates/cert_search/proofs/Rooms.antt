-- The room behind the texts of rules.
use Rattle.std.proofs.Common.{◌≡◌, ℕ, ◌+◌, ◌-◌, ◌<◌, ◌≤◌, List, ◌∷◌, length, drop, get_or, map, arith, refl, ap, ap₂, ◌∙◌, sym, add-one, drop-cons, Box, Vec}
use Rattle.std.proofs.lemmas.List.{drop_all}
use Rattle.refutation.specs.declared.Side.{Side}
use Rattle.refutation.specs.declared.Refutation.{Refutation}
use Rattle.refutation.specs.declared.Refutation.TheVariants.{Open, Pick, Match}
use Rattle.refutation.specs.Common.{Rule, open_all, pick, pair_up, branches_of, rule_of}
use Rattle.refutation.proofs.Rules.{branches_step, rule_of-Open, rule_of-Pick, rule_of-Match}
use Rattle.cert_search.specs.Lengths.{branches_length, digits, head_length, numbers_length, pairs_length, rule_length}

-- one branch more
pub length_step : {A : Type 0} (then : List (Refutation A)) (i left : ℕ) (x : Refutation A) → i < length then → x ≡ get_or then i x → left - rule_length (rule_of x) - branches_length (branches_of (map rule_of (drop (i + 1) then))) ≡ left - branches_length (branches_of (map rule_of (drop i then)))
length_step {A} then i left x h is =
    let counted : branches_length (branches_of (map rule_of (drop i then))) ≡ rule_length (rule_of x) + branches_length (branches_of (map rule_of (drop (i + 1) then))) = ap (λ (rs : List Rule). branches_length (branches_of rs)) (branches_step then i x h is) in
    omega (arith, counted)

nothing_left : (left rest whole : ℕ) → rest ≡ 0 → left - rest ≡ whole → left ≡ whole
nothing_left left rest whole h e = omega arith

-- no branch is left
pub all_taken : {A : Type 0} (then : List (Refutation A)) (i left whole : ℕ) → length then ≤ i → left - branches_length (branches_of (map rule_of (drop i then))) ≡ whole → left ≡ whole
all_taken then i left whole past so_far = nothing_left left (branches_length (branches_of (map rule_of (drop i then)))) whole (ap (λ rs. branches_length (branches_of (map rule_of rs))) (drop_all i then past)) so_far

taken : (left start room head below all : ℕ) → left ≡ start - below → start ≡ room - head → all ≡ head + below → left ≡ room - all
taken left start room head below all h e i = omega arith

-- the room behind a rule with one branch
pub behind_open : {A : Type 0} (rule : Refutation A) (side : Side) (item : ℕ) (then : Box (Refutation A) A) (x : Refutation A) (left start room : ℕ) → rule ≡ Open side item then → x ≡ then.value → left ≡ start - rule_length (rule_of x) → start ≡ room - head_length (rule_of rule) → left ≡ room - rule_length (rule_of rule)
behind_open rule side item then x left start room is same h e =
    let of : rule_of rule ≡ open_all side item (rule_of x) = ap rule_of is ∙ (rule_of-Open side item then ∙ ap (λ r. open_all side item (rule_of r)) (sym same)) in
    taken left start room (head_length (rule_of rule)) (rule_length (rule_of x)) (rule_length (rule_of rule)) h e (ap rule_length of ∙ ap (λ r. head_length r + rule_length (rule_of x)) (sym of))

-- and behind rules with lists of them
pub behind_pick : {A : Type 0} (rule : Refutation A) (side : Side) (item : ℕ) (children : Vec ℕ A) (then : Vec (Refutation A) A) (bs : List (Refutation A)) (left start room : ℕ) → rule ≡ Pick side item children then → bs ≡ then.items
    → left ≡ start - branches_length (branches_of (map rule_of bs)) → start ≡ room - head_length (rule_of rule) → left ≡ room - rule_length (rule_of rule)
behind_pick rule side item children then bs left start room is list h e =
    let of : rule_of rule ≡ pick side item children.items (branches_of (map rule_of bs)) = ap rule_of is ∙ (rule_of-Pick side item children then ∙ ap (λ rs. pick side item children.items (branches_of (map rule_of rs))) (sym list)) in
    taken left start room (head_length (rule_of rule)) (branches_length (branches_of (map rule_of bs))) (rule_length (rule_of rule)) h e (ap rule_length of ∙ ap (λ r. head_length r + branches_length (branches_of (map rule_of bs))) (sym of))

pub behind_match : {A : Type 0} (rule : Refutation A) (left right : ℕ) (pairs : Vec (ℕ × ℕ) A) (then : Vec (Refutation A) A) (bs : List (Refutation A)) (rest start room : ℕ) → rule ≡ Match left right pairs then → bs ≡ then.items
    → rest ≡ start - branches_length (branches_of (map rule_of bs)) → start ≡ room - head_length (rule_of rule) → rest ≡ room - rule_length (rule_of rule)
behind_match rule left right pairs then bs rest start room is list h e =
    let of : rule_of rule ≡ pair_up left right pairs.items (branches_of (map rule_of bs)) = ap rule_of is ∙ (rule_of-Match left right pairs then ∙ ap (λ rs. pair_up left right pairs.items (branches_of (map rule_of rs))) (sym list)) in
    taken rest start room (head_length (rule_of rule)) (branches_length (branches_of (map rule_of bs))) (rule_length (rule_of rule)) h e (ap rule_length of ∙ ap (λ r. head_length r + branches_length (branches_of (map rule_of bs))) (sym of))

-- one number more, and one pair
pub number_step : (ns : List ℕ) (i left x : ℕ) → i < length ns → x ≡ get_or ns i 0 → left - 1 - digits x - numbers_length (drop (i + 1) ns) ≡ left - numbers_length (drop i ns)
number_step ns i left x within is =
    let split : drop i ns ≡ x ∷ drop (i + 1) ns = drop-cons ns i 0 within ∙ rw (← is, add-one) refl in
    let front : numbers_length (drop i ns) ≡ 1 + digits x + numbers_length (drop (i + 1) ns) = ap numbers_length split in
    omega (arith, front)

pub pair_step : (ps : List (ℕ × ℕ)) (i left x y : ℕ) → i < length ps → x ≡ (get_or ps i (0, 0)).0 → y ≡ (get_or ps i (0, 0)).1 → left - 4 - digits x - digits y - pairs_length (drop (i + 1) ps) ≡ left - pairs_length (drop i ps)
pair_step ps i left x y within is_x is_y =
    let rest = pairs_length (drop (i + 1) ps) in
    let split : drop i ps ≡ get_or ps i (0, 0) ∷ drop (i + 1) ps = drop-cons ps i (0, 0) within ∙ rw add-one refl in
    let front : pairs_length (drop i ps) ≡ 4 + digits x + digits y + rest = ap pairs_length split ∙ ap₂ (λ m n. 4 + digits m + digits n + rest) (sym is_x) (sym is_y) in
    omega (arith, front)

pub no_number : (ns : List ℕ) (i left whole : ℕ) → length ns ≤ i → left - numbers_length (drop i ns) ≡ whole → left ≡ whole
no_number ns i left whole past so_far = nothing_left left (numbers_length (drop i ns)) whole (ap numbers_length (drop_all i ns past)) so_far

pub no_pair : (ps : List (ℕ × ℕ)) (i left whole : ℕ) → length ps ≤ i → left - pairs_length (drop i ps) ≡ whole → left ≡ whole
no_pair ps i left whole past so_far = nothing_left left (pairs_length (drop i ps)) whole (ap pairs_length (drop_all i ps past)) so_far
