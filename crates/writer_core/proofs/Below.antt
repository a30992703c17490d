-- Tests that each number below a bound passes.
use Rattle.std.proofs.Common.{◌≡◌, ℕ, zero, suc, ◌+◌, ◌<◌, ◌≤◌, Bool, true, false, ◌&&◌, nat_le, List, [], ◌∷◌, length, get_or, map, ap, ap₂, ◌∙◌, refl, subst, inl, inr, arith, add-one}
use Rattle.std.proofs.lemmas.Bool.{cases_lt}
use Rattle.std.proofs.lemmas.List.{length-map}
use Rattle.volume_model.specs.Common.{every_below, Plan, is_configuration, place_in, are_places}
use Rattle.volume_model.specs.Message as model
use Rattle.wire.specs.declared.label.Place.{Place}
use Rattle.wire.specs.Common.{place_of}
use Rattle.std.proofs.lemmas.Grind.{common_steps}

pub and_false : (a : Bool) → (a && false) ≡ false
and_false true = refl
and_false false = refl

-- one number that fails
pub below-fails : (n : ℕ) (test : ℕ → Bool) (i : ℕ) → i < n → test i ≡ false → every_below n test ≡ false
below-fails zero test i h e = absurd (omega arith)
below-fails (suc n) test i h e =
    elim (cases_lt i n) [
      | inl b ↦ ap (λ x. test n && x) (below-fails n test i b e) ∙ and_false (test n)
      | inr b ↦ (let same : i ≡ n = omega arith in ap (λ x. x && every_below n test) (subst (λ k. test k ≡ false) same e))
    ]

-- one number more
pub below-more : (n : ℕ) (test : ℕ → Bool) → every_below n test ≡ true → test n ≡ true → every_below (n + 1) test ≡ true
below-more n test h e = ap (λ k. every_below k test) (add-one n) ∙ ap₂ (λ a b. a && b) e h

-- the place of a group in a list
pub place_in-at : (places : List Place) (i : ℕ) (d : Place) → i < length places → place_in (map place_of places) i ≡ place_of (get_or places i d)
place_in-at [] i d h = absurd (omega arith)
place_in-at (p ∷ rest) zero d h = refl
place_in-at (p ∷ rest) (suc i) d h = place_in-at rest i d (omega arith)

-- the place is one of a configuration of the group
abbrev pub is_place : Plan → List model.Place → ℕ → Bool
is_place plan places group = is_configuration plan group (place_in places group).configuration (place_in places group).epoch

pub is_place-at : (plan : Plan) (places : List Place) (i : ℕ) (d : Place) → i < length places → is_place plan (map place_of places) i ≡ is_configuration plan i (get_or places i d).configuration (get_or places i d).epoch
is_place-at plan places i d h = ap (λ (p : model.Place). is_configuration plan i p.configuration p.epoch) (place_in-at places i d h)

-- ---- places of the plan's first groups

-- the places are as many as the plan allows, and each is one of a configuration
abbrev pub ArePlaces : Plan → List model.Place → Type 0
ArePlaces plan places = (plan.born ≤ length places) × (length places ≤ plan.groups) × (every_below (length places) (is_place plan places) ≡ true)

pub places-parts : (plan : Plan) (places : List model.Place) → are_places plan places ≡ true → ArePlaces plan places
places-parts plan places h = grind (arith, common_steps)

-- one place that isn't such
pub places-fail : (plan : Plan) (places : List Place) (i : ℕ) (d : Place) → i < length places → is_configuration plan i (get_or places i d).configuration (get_or places i d).epoch ≡ false → are_places plan (map place_of places) ≡ false
places-fail plan places i d h e =
    let ps : List model.Place = map place_of places in
    let many : length ps ≡ length places = length-map places place_of in
    grind (arith, common_steps, (below-fails (length ps) (is_place plan ps) i (omega arith) (is_place-at plan places i d h ∙ e)), (is_place plan ps), (is_place-at plan places i d h), (and_false (nat_le (length ps) plan.groups)), (and_false (nat_le plan.born (length ps))))
