-- Lists of weighted things, one after the other.
use Rattle.std.proofs.Common.{◌≡◌, ◌≢◌, ℕ, suc, ◌+◌, ◌*◌, ◌<◌, ◌≤◌, List, [], ◌∷◌, length, get_or, drop, map, arith, refl, ap, subst, ◌∙◌, sym, add-one, drop-cons, Fits, Bool, true, false, ◌&&◌, nat_le}
use mir.Syntax.{w128}
use Rattle.std.proofs.lemmas.Bool.Decides.{nat_tests}
use Rattle.std.proofs.lemmas.List.{drop_all}
use Rattle.volume_model.specs.Common.{Formula, no_child, child, formulas, total_weight}
use Rattle.quorum_expr.specs.Expr.{weighed}
use Rattle.quorum_expr.specs.Valid.{each_fits, good_choice}

-- a weighted thing, seen through f
abbrev pub seen : {X Y : Type 0} → (X → Y) → ℕ × X → ℕ × Y
seen f x = (x.0, f x.1)

-- things that are seen in their places
pub weighed-seen : {X : Type 0} (f : X → Formula) (xs : List (ℕ × X)) → weighed (λ g. g) (map (seen f) xs) ≡ weighed f xs
weighed-seen f [] = refl
weighed-seen f (x ∷ xs) = ap (child x.0 (f x.1)) (weighed-seen f xs)

-- what looks the same is the same
pub weighed-same : {X Y : Type 0} (f : X → Formula) (g : Y → Formula) (xs : List (ℕ × X)) (ys : List (ℕ × Y)) → map (seen f) xs ≡ map (seen g) ys → weighed f xs ≡ weighed g ys
weighed-same f g xs ys h = sym (weighed-seen f xs) ∙ ap (weighed (λ x. x)) h ∙ weighed-seen g ys

-- the one at hand, and those after it
pub weighed-step : {X : Type 0} (f : X → Formula) (xs : List (ℕ × X)) (i : ℕ) (x : ℕ × X) → i < length xs → x ≡ get_or xs i x → weighed f (drop i xs) ≡ child x.0 (f x.1) (weighed f (drop (i + 1) xs))
weighed-step f xs i x h is =
    ap (weighed f) (drop-cons xs i x h ∙ ap (λ y. y ∷ drop (suc i) xs) (sym is)) ∙ ap (λ n. child x.0 (f x.1) (weighed f (drop n xs))) (sym (add-one i))

-- none is left
pub weighed-done : {X : Type 0} (f : X → Formula) (xs : List (ℕ × X)) (i : ℕ) → length xs ≤ i → weighed f (drop i xs) ≡ no_child
weighed-done f xs i h = ap (weighed f) (drop_all i xs h)

-- there are as many formulas
pub length-weighed : {X : Type 0} (f : X → Formula) (xs : List (ℕ × X)) → length (formulas (weighed f xs)) ≡ length xs
length-weighed f [] = refl
length-weighed f (x ∷ xs) = ap suc (length-weighed f xs)

-- one behind the others weighs as much more
pub total-step : {X : Type 0} (f : X → Formula) (xs : List (ℕ × X)) (i : ℕ) (x : ℕ × X) (now all whole : ℕ) → i < length xs → x ≡ get_or xs i x → now ≡ all + x.0
    → all + total_weight (weighed f (drop i xs)) ≡ whole → now + total_weight (weighed f (drop (i + 1) xs)) ≡ whole
total-step f xs i x now all whole h is more so_far =
    let here : total_weight (weighed f (drop i xs)) ≡ x.0 + total_weight (weighed f (drop (i + 1) xs)) = ap total_weight (weighed-step f xs i x h is) in
    omega (arith, here, more, so_far)

pub total-done : {X : Type 0} (f : X → Formula) (xs : List (ℕ × X)) (i all whole : ℕ) → length xs ≤ i → all + total_weight (weighed f (drop i xs)) ≡ whole → all ≡ whole
total-done f xs i all whole past so_far =
    let none : total_weight (weighed f (drop i xs)) ≡ 0 = ap total_weight (weighed-done f xs i past) in
    omega (arith, none, so_far)

-- ---- weights of 1 to 255

pub fits_more : (w : ℕ) (b : Bool) → w ≢ 0 → w ≤ 255 → (nat_le 1 w && (nat_le w 255 && b)) ≡ b
fits_more w b some small = grind (arith, nat_tests)

pub fits_not : (w : ℕ) (b : Bool) → w ≡ 0 → (nat_le 1 w && (nat_le w 255 && b)) ≡ false
fits_not w b none = grind (arith, nat_tests)

-- a weight of 0 is none
pub fits-none : {X : Type 0} (f : X → Formula) (xs : List (ℕ × X)) (i : ℕ) (x : ℕ × X) → i < length xs → x ≡ get_or xs i x → x.0 ≡ 0 → each_fits (weighed f (drop i xs)) ≡ false
fits-none f xs i x h is none = ap each_fits (weighed-step f xs i x h is) ∙ fits_not x.0 (each_fits (weighed f (drop (i + 1) xs))) none

pub fits-done : {X : Type 0} (f : X → Formula) (xs : List (ℕ × X)) (i : ℕ) → length xs ≤ i → each_fits (weighed f (drop i xs)) ≡ true
fits-done f xs i past = ap each_fits (weighed-done f xs i past)

-- ---- good thresholds

pub no_room : (b : Bool) (k w n : ℕ) → 64 < n → false ≡ (b && (nat_le 1 k && (nat_le k w && nat_le n 64)))
no_room b k w n h = grind (arith, nat_tests)

pub too_many : {X : Type 0} (f : X → Formula) (k : ℕ) (xs : List (ℕ × X)) → 64 < length xs → false ≡ good_choice k (weighed f xs)
too_many f k xs h = no_room (each_fits (weighed f xs)) k (total_weight (weighed f xs)) (length (formulas (weighed f xs))) (subst (λ n. 64 < n) (sym (length-weighed f xs)) h)

pub bad_weight : (b c : Bool) → b ≡ false → false ≡ (b && c)
bad_weight b c h = ap (λ x. x && c) (sym h)

pub unfit : {X : Type 0} (f : X → Formula) (k : ℕ) (xs : List (ℕ × X)) (i : ℕ) (x : ℕ × X) → i < length xs → x ≡ get_or xs i x → x.0 ≡ 0 → each_fits (weighed f (drop i xs)) ≡ each_fits (weighed f xs) → false ≡ good_choice k (weighed f xs)
unfit f k xs i x h is none so_far = bad_weight (each_fits (weighed f xs)) _ (sym so_far ∙ fits-none f xs i x h is none)

pub tested : (b : Bool) (k w n : ℕ) → b ≡ true → n ≤ 64 → (nat_le 1 k && nat_le k w) ≡ (b && (nat_le 1 k && (nat_le k w && nat_le n 64)))
tested b k w n h few = grind (arith, nat_tests, h)

pub judged : {X : Type 0} (f : X → Formula) (k : ℕ) (xs : List (ℕ × X)) (i all : ℕ) → length xs ≤ 64 → length xs ≤ i → each_fits (weighed f (drop i xs)) ≡ each_fits (weighed f xs) → all + total_weight (weighed f (drop i xs)) ≡ total_weight (weighed f xs)
    → (nat_le 1 k && nat_le k all) ≡ good_choice k (weighed f xs)
judged f k xs i all few past fits total =
    (λ j. nat_le 1 k && nat_le k (total-done f xs i all (total_weight (weighed f xs)) past total j))
    ∙ tested (each_fits (weighed f xs)) k (total_weight (weighed f xs)) (length (formulas (weighed f xs))) (sym fits ∙ fits-done f xs i past) (subst (λ n. n ≤ 64) (sym (length-weighed f xs)) few)

-- so many weights and one more are a small number
pub sum_fits : (all i n w : ℕ) → all ≤ 255 * i → i ≤ n → n ≤ 64 → w ≤ 255 → Fits w128 (all + w)
sum_fits all i n w h e f g = omega arith

pub at_least_one : (k n all : ℕ) → 1 ≤ k → n ≡ k → nat_le n all ≡ (nat_le 1 k && nat_le k all)
at_least_one k n all h e = grind (arith, nat_tests)
