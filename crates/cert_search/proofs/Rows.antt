-- Lists that are seen through a function, and lists that are made from a range.
use Rattle.std.proofs.Common.{◌≡◌, ◌≢◌, ℕ, zero, suc, ◌+◌, ◌<◌, ◌≤◌, List, [], ◌∷◌, ◌++◌, map, length, get_or, set, Some, All, Bool, true, false, cond, filter, refl, sym, ap, ◌∙◌, subst, true≢false, add-one, arith, slice_get}
use Rattle.std.specs.List.{range_with_len}
use mathlib.Core.Option.{some, some-ne-none, some-injective}
use lib.ListN.{get_elem?}
use Rattle.cert_search.proofs.Steps.{in_range}

pub some_is : {A : Type 0} (x y : A) → Some x ≡ Some y → x ≡ y
some_is x y e = cc (e)

module _ {A B : Type 0} (f : A → B) where
  pub map_set : (xs : List A) (i : ℕ) (y : A) → map f (set xs i y) ≡ set (map f xs) i (f y)
  map_set [] i y = refl
  map_set (x ∷ xs) zero y = refl
  map_set (x ∷ xs) (suc i) y = ap (λ l. f x ∷ l) (map_set xs i y)

  pub map_len : (xs : List A) → length (map f xs) ≡ length xs
  map_len [] = refl
  map_len (x ∷ xs) = ap suc (map_len xs)

  pub map_get : (xs : List A) (i : ℕ) (d : A) → i < length xs → slice_get (map f xs) i ≡ Some (f (get_or xs i d))
  map_get [] i d lt = absurd (omega arith)
  map_get (x ∷ xs) zero d lt = refl
  map_get (x ∷ xs) (suc i) d lt = map_get xs i d (omega arith)

  pub map_at : (xs : List A) (i : ℕ) (y : A) → slice_get xs i ≡ Some y → slice_get (map f xs) i ≡ Some (f y)
  map_at [] i y e = absurd (cc)
  map_at (x ∷ xs) zero y e = let is : x ≡ y = cc in ap (λ z. Some (f z)) is
  map_at (x ∷ xs) (suc i) y e = map_at xs i y e

  -- what stands in the mapped list is of the list
  pub map_from : (xs : List A) (i : ℕ) (z : B) → slice_get (map f xs) i ≡ Some z → (y : A) × (slice_get xs i ≡ Some y) × (f y ≡ z)
  map_from [] i z e = absurd (cc)
  map_from (x ∷ xs) zero z e = (x, refl, cc)
  map_from (x ∷ xs) (suc i) z e = map_from xs i z e

  pub map_push : (xs : List A) (y : A) → map f (xs ++ y ∷ []) ≡ map f xs ++ f y ∷ []
  map_push [] y = refl
  map_push (x ∷ xs) y = ap (λ l. f x ∷ l) (map_push xs y)

-- a map of a map
pub map_twice : {A B C : Type 0} (f : A → B) (g : B → C) (xs : List A) → map g (map f xs) ≡ map (λ x. g (f x)) xs
map_twice f g [] = refl
map_twice f g (x ∷ xs) = ap (λ l. g (f x) ∷ l) (map_twice f g xs)

module _ {A : Type 0} where
  pub set_same : (xs : List A) (i : ℕ) (y : A) → slice_get xs i ≡ Some y → set xs i y ≡ xs
  set_same [] i y e = refl
  set_same (x ∷ xs) zero y e = let is : x ≡ y = cc in ap (λ z. z ∷ xs) (sym is)
  set_same (x ∷ xs) (suc i) y e = ap (λ l. x ∷ l) (set_same xs i y e)

  pub set_at : (xs : List A) (k : ℕ) (y z : A) → slice_get xs k ≡ Some z → slice_get (set xs k y) k ≡ Some y
  set_at [] k y z e = absurd (cc)
  set_at (x ∷ xs) zero y z e = refl
  set_at (x ∷ xs) (suc k) y z e = set_at xs k y z e

  pub set_other : (xs : List A) (i k : ℕ) (y : A) → k ≢ i → slice_get (set xs i y) k ≡ slice_get xs k
  set_other [] i k y apart = refl
  set_other (x ∷ xs) zero zero y apart = absurd (apart refl)
  set_other (x ∷ xs) zero (suc k) y apart = refl
  set_other (x ∷ xs) (suc i) zero y apart = refl
  set_other (x ∷ xs) (suc i) (suc k) y apart = set_other xs i k y (λ e. apart (ap suc e))

  pub get_at : (xs : List A) (i : ℕ) (d : A) → i < length xs → slice_get xs i ≡ Some (get_or xs i d)
  get_at [] i d lt = absurd (omega arith)
  get_at (x ∷ xs) zero d lt = refl
  get_at (x ∷ xs) (suc i) d lt = get_at xs i d (omega arith)

  pub within : (xs : List A) (i : ℕ) (y : A) → slice_get xs i ≡ Some y → i < length xs
  within [] i y e = absurd (cc)
  within (x ∷ xs) zero y e = omega arith
  within (x ∷ xs) (suc i) y e = let lt = within xs i y e in omega arith

  pub all_of : (P : A → Type 0) (xs : List A) → ((k : ℕ) (v : A) → k < length xs → slice_get xs k ≡ Some v → P v) → All P xs
  all_of P xs each k d lt = each k (get_or xs k d) lt (get_at xs k d lt)

  -- the two ways to say what stands at an index
  pub elem_get : (xs : List A) (i : ℕ) (y d : A) → get_elem? xs i ≡ some y → get_or xs i d ≡ y
  elem_get [] i y d e = absurd (some-ne-none y (sym e))
  elem_get (x ∷ xs) zero y d e = some-injective x y e
  elem_get (x ∷ xs) (suc i) y d e = elem_get xs i y d e

  pub get_elem : (xs : List A) (i : ℕ) (d : A) → i < length xs → get_elem? xs i ≡ some (get_or xs i d)
  get_elem [] i d lt = absurd (omega arith)
  get_elem (x ∷ xs) zero d lt = refl
  get_elem (x ∷ xs) (suc i) d lt = get_elem xs i d (omega arith)

  pub all_at : (P : A → Type 0) (xs : List A) → All P xs → (i : ℕ) (y : A) → get_elem? xs i ≡ some y → P y
  all_at P xs all i y e = subst P (elem_get xs i y y e) (all i y (in_range xs i y e))

  pub all_from : (P : A → Type 0) (xs : List A) → ((i : ℕ) (y : A) → get_elem? xs i ≡ some y → P y) → All P xs
  all_from P xs each k d lt = each k (get_or xs k d) (get_elem xs k d lt)

-- lists made from a range
module _ {A : Type 0} where
  pub range_same : (F G : ℕ → A) (a n : ℕ) → ((k : ℕ) → a ≤ k → k < a + n → F k ≡ G k) → map F (range_with_len a n) ≡ map G (range_with_len a n)
  range_same F G a zero same = refl
  range_same F G a (suc n) same = λ i. (same a (omega arith) (omega arith) i) ∷ (range_same F G (a + 1) n (λ k ge lt. same k (omega arith) (omega arith)) i)

  -- one element of the list changes
  pub range_set : (F G : ℕ → A) (a n i d : ℕ) → d ≡ a + i → i < n → ((k : ℕ) → k ≢ d → F k ≡ G k) → set (map F (range_with_len a n)) i (G d) ≡ map G (range_with_len a n)
  range_set F G a zero i d is lt same = absurd (omega arith)
  range_set F G a (suc n) zero d is lt same = λ j. (G (let e : d ≡ a = omega (arith, is) in e j)) ∷ (range_same F G (a + 1) n (λ k ge below. same k (λ e. omega (arith, is, e))) j)
  range_set F G a (suc n) (suc i) d is lt same = λ j. (same a (λ e. omega (arith, is, e)) j) ∷ (range_set F G (a + 1) n i d (omega (arith, is)) (omega arith) same j)

  pub range_get : (F : ℕ → A) (a n i : ℕ) → i < n → slice_get (map F (range_with_len a n)) i ≡ Some (F (a + i))
  range_get F a zero i lt = absurd (omega arith)
  range_get F a (suc n) zero lt = let e : a ≡ a + 0 = omega arith in ap (λ k. Some (F k)) e
  range_get F a (suc n) (suc i) lt = let e : (a + 1) + i ≡ a + suc i = omega arith in range_get F (a + 1) n i (omega arith) ∙ ap (λ k. Some (F k)) e

  pub range_len : (F : ℕ → A) (a n : ℕ) → length (map F (range_with_len a n)) ≡ n
  range_len F a zero = refl
  range_len F a (suc n) = ap suc (range_len F (a + 1) n)

module _ {A : Type 0} (p : A → Bool) (y : A) where
  -- the element stands in the list and passes the test
  abbrev Passes : List A → Type 0
  Passes xs = (p y ≡ true) × ((j : ℕ) × (get_elem? xs j ≡ some y))

  module _ (x : A) (xs ys : List A) (rest : (k : ℕ) → get_elem? ys k ≡ some y → Passes xs) where
    in_rest : (k : ℕ) → get_elem? ys k ≡ some y → Passes (x ∷ xs)
    in_rest k e = let t = rest k e in (t.0, (suc t.1.0, t.1.1))

    with_first : p x ≡ true → (k : ℕ) → get_elem? (x ∷ ys) k ≡ some y → Passes (x ∷ xs)
    with_first passes zero e = (ap p (sym (some-injective x y e)) ∙ passes, (0, e))
    with_first passes (suc k) e = in_rest k e

    by_test : (b : Bool) → p x ≡ b → (k : ℕ) → get_elem? (cond b (x ∷ ys) ys) k ≡ some y → Passes (x ∷ xs)
    by_test true passes k e = with_first passes k e
    by_test false passes k e = in_rest k e

  -- what stands in a filtered list passes the test, and stands in the list
  pub filter_at : (xs : List A) (i : ℕ) → get_elem? (filter p xs) i ≡ some y → Passes xs
  filter_at [] i e = absurd (some-ne-none y (sym e))
  filter_at (x ∷ xs) i e = by_test x xs (filter p xs) (λ k f. filter_at xs k f) (p x) refl i e

pub range_bounds : (a n j c : ℕ) → get_elem? (range_with_len a n) j ≡ some c → (a ≤ c) × (c < a + n)
range_bounds a zero j c e = absurd (some-ne-none c (sym e))
range_bounds a (suc n) zero c e = let is = some-injective a c e in (omega (arith, is), omega (arith, is))
range_bounds a (suc n) (suc j) c e = let t = range_bounds (a + 1) n j c e in (omega (arith, t.0), omega (arith, t.1))

pub range_more : (a n : ℕ) → range_with_len a (n + 1) ≡ range_with_len a n ++ (a + n) ∷ []
range_more a zero = let e : a ≡ a + 0 = omega arith in ap (λ k. k ∷ []) e
range_more a (suc n) =
    let e : (a + 1) + n ≡ a + suc n = omega arith in
    ap (range_with_len a) (add-one (suc n)) ∙ ap (λ l. a ∷ l) (ap (range_with_len (a + 1)) (sym (add-one n)) ∙ range_more (a + 1) n ∙ ap (λ k. range_with_len (a + 1) n ++ k ∷ []) e)

-- an element of the list that passes the test stands in the filtered list
module _ {A : Type 0} (p : A → Bool) (y : A) (passes : p y ≡ true) where
  kept_first : (x : A) (ys : List A) (b : Bool) → p x ≡ b → x ≡ y → (k : ℕ) × (get_elem? (cond b (x ∷ ys) ys) k ≡ some y)
  kept_first x ys true test is = (0, ap some is)
  kept_first x ys false test is = absurd (true≢false (sym passes ∙ ap p (sym is) ∙ test))

  kept_later : (x : A) (ys : List A) (b : Bool) (k : ℕ) → get_elem? ys k ≡ some y → (k : ℕ) × (get_elem? (cond b (x ∷ ys) ys) k ≡ some y)
  kept_later x ys true k e = (suc k, e)
  kept_later x ys false k e = (k, e)

  pub filter_has : (xs : List A) (j : ℕ) → get_elem? xs j ≡ some y → (k : ℕ) × (get_elem? (filter p xs) k ≡ some y)
  filter_has [] j e = absurd (some-ne-none y (sym e))
  filter_has (x ∷ xs) zero e = kept_first x (filter p xs) (p x) refl (some-injective x y e)
  filter_has (x ∷ xs) (suc j) e = let t = filter_has xs j e in kept_later x (filter p xs) (p x) t.0 t.1

pub range_has : (a n i c : ℕ) → i < n → c ≡ a + i → get_elem? (range_with_len a n) i ≡ some c
range_has a zero i c lt is = absurd (omega arith)
range_has a (suc n) zero c lt is = let e : a ≡ c = omega (arith, is) in ap some e
range_has a (suc n) (suc i) c lt is = range_has (a + 1) n i c (omega arith) (omega (arith, is))
