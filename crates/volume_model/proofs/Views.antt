-- The places that a View lists.
use Rattle.std.proofs.Common.{◌≡◌, ℕ, zero, suc, ◌<◌, ◌≤◌, true, List, [], ◌∷◌, ◌++◌, length, length-append, refl, ◌∙◌, inl, inr, arith}
use Rattle.std.proofs.lemmas.Bool.{cases_lt}
use Rattle.volume_model.specs.Common.{each_below, Plan, Place, place_in, Authority, groups_joined, place_now, places_now}
use Rattle.std.proofs.lemmas.Grind.{common_steps}

place_in-append : (xs : List Place) (k : ℕ) (ys : List Place) → k < length xs → place_in (xs ++ ys) k ≡ place_in xs k
place_in-append [] k ys h = absurd (omega arith)
place_in-append (x ∷ xs) zero ys h = refl
place_in-append (x ∷ xs) (suc k) ys h = place_in-append xs k ys (omega arith)

place_in-last : (xs : List Place) (y : Place) → place_in (xs ++ y ∷ []) (length xs) ≡ y
place_in-last [] y = refl
place_in-last (x ∷ xs) y = place_in-last xs y

length-each : (n : ℕ) (f : ℕ → Place) → length (each_below n (λ k. true) f) ≡ n
length-each zero f = refl
length-each (suc n) f = simp (length-append) (let h : length (each_below n (λ k. true) f) ≡ n = length-each n f in omega arith)

-- the list of all groups' places has each
place_in-each : (n : ℕ) (f : ℕ → Place) (k : ℕ) → k < n → place_in (each_below n (λ k. true) f) k ≡ f k
place_in-each zero f k h = absurd (omega arith)
place_in-each (suc n) f k h =
    let l : length (each_below n (λ k. true) f) ≡ n = length-each n f in
    elim (cases_lt k n) [
      | inl b ↦ place_in-append (each_below n (λ k. true) f) k (f n ∷ []) (omega arith) ∙ place_in-each n f k b
      | inr b ↦ grind (arith, common_steps, place_in-last)
    ]

-- a View lists as many places as groups have joined
pub length-places_now : (plan : Plan) (authority : Authority) → length (places_now plan authority) ≡ groups_joined authority
length-places_now plan authority = length-each (groups_joined authority) (place_now plan authority)

-- and each where its group stands
pub place_in-places_now : (plan : Plan) (authority : Authority) (k : ℕ) → k < groups_joined authority → place_in (places_now plan authority) k ≡ place_now plan authority k
place_in-places_now plan authority k h = place_in-each (groups_joined authority) (place_now plan authority) k h

-- beyond the list there is no place
pub place_in-beyond : (places : List Place) (k : ℕ) → length places ≤ k → place_in places k ≡ record { configuration = 0; epoch = 0 }
place_in-beyond [] k h = refl
place_in-beyond (p ∷ places) zero h = absurd (omega arith)
place_in-beyond (p ∷ places) (suc k) h = place_in-beyond places k (omega arith)

-- a place with an epoch stands in the list
pub place_in-there : (places : List Place) (k : ℕ) → 1 ≤ (place_in places k).epoch → k < length places
place_in-there [] k h = absurd (omega arith)
place_in-there (p ∷ places) zero h = omega arith
place_in-there (p ∷ places) (suc k) h = let l : k < length places = place_in-there places k h in omega arith
