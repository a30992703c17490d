-- Numbers that are looked for among growing ones
use Rattle.std.proofs.Common.{◌≡◌, ◌≢◌, ℕ, zero, suc, ◌<◌, ◌≤◌, ◌==◌, ◌||◌, ◌++◌, ◌+◌, Bool, true, false, List, [], ◌∷◌, length, length-append, get_or, Result, Ok, Err, Less, Equal, Greater, refl, sym, ap, ◌∙◌, subst, inl, inr, if◌then◌else◌, arith, is_ok}
use Rattle.std.specs.Ordering.{nat_cmp, ordering_index}
use Rattle.std.specs.List.Sorted.{IsNonDecreasing, IsNonDecreasingBy, IsPartitionPoint, IsBinarySearchResult, IsSearchInRange}
use Rattle.std.proofs.lemmas.Bool.{cases_Bool, cases_lt, eqb-true, eq-eqb}
use Rattle.std.proofs.lemmas.Bool.Decides.{nat_tests}
use Rattle.volume_model.specs.Common.{any}
use Rattle.volume_model.proofs.Basics.{any_passes, any_from}
use Rattle.redo_record.proofs.Places.{list-all, IsIn-get_or}

-- some number is this one
abbrev pub has : List ℕ → ℕ → Bool
has xs n = any (λ m. m == n) xs

pub has-at : (xs : List ℕ) (n k d : ℕ) → k < length xs → get_or xs k d ≡ n → has xs n ≡ true
has-at xs n k d within at = any_from (λ m. m == n) xs (get_or xs k d) (IsIn-get_or xs k d within) (eq-eqb (get_or xs k d) n at)

pub has-not : (xs : List ℕ) (n : ℕ) → ((k d : ℕ) → k < length xs → get_or xs k d ≢ n) → has xs n ≡ false
has-not xs n other = elim (cases_Bool (has xs n)) [
  | inl e ↦ (let (x, i, f) = any_passes (λ m. m == n) xs e in absurd (list-all (λ m. m ≢ n) xs other x i (eqb-true x n f)))
  | inr e ↦ e
]

-- against growing numbers the answers rise
rises : (xs : List ℕ) (n : ℕ) → IsNonDecreasing xs → IsNonDecreasingBy (λ y. ordering_index (nat_cmp y n)) xs
rises xs n grow i j d l within = rising (get_or xs i d) (get_or xs j d) n (grow i j d l within)
  where
    rising : (a b n : ℕ) → a ≤ b → ordering_index (nat_cmp a n) ≤ ordering_index (nat_cmp b n)
    rising a b n l = grind (arith, nat_tests)

less-not : (y n : ℕ) → nat_cmp y n ≡ Less → y ≢ n
less-not y n e same = grind (arith, nat_tests)

greater-not : (y n : ℕ) → nat_cmp y n ≡ Greater → y ≢ n
greater-not y n e same = grind (arith, nat_tests)

equal-is : (y n : ℕ) → nat_cmp y n ≡ Equal → y ≡ n
equal-is y n e = grind (arith, nat_tests)

-- what a search says
pub sought : (xs : List ℕ) (n : ℕ) (r : Result ℕ ℕ) → IsNonDecreasing xs → IsSearchInRange r (length xs) → IsBinarySearchResult (λ y. nat_cmp y n) xs r → is_ok r ≡ has xs n
sought xs n (Ok i) grow within at = sym (has-at xs n i n within (equal-is (get_or xs i n) n (at n)))
sought xs n (Err i) grow within at =
    let parting : IsPartitionPoint (λ y. nat_cmp y n ≡ Less) (λ y. nat_cmp y n ≡ Greater) xs i = at (rises xs n grow) in
    sym (has-not xs n (λ k d l. elim (cases_lt k i) [
      | inl below ↦ less-not (get_or xs k d) n (parting.0 k d (omega arith) (omega arith))
      | inr from ↦ greater-not (get_or xs k d) n (parting.1 k d from l)
    ]))

-- one number more
pub has-push : (xs : List ℕ) (x n : ℕ) → has (xs ++ x ∷ []) n ≡ (if x == n then true else has xs n)
has-push [] x n = elim (cases_Bool (x == n)) [ inl e ↦ rw e refl | inr e ↦ rw e refl ]
has-push (y ∷ ys) x n = elim (cases_Bool (x == n)) [
  | inl e ↦ rw e (ap (λ b. y == n || b) (has-push ys x n ∙ (rw e refl)) ∙ or_true (y == n))
  | inr e ↦ rw e (ap (λ b. y == n || b) (has-push ys x n ∙ (rw e refl)))
]
  where
    or_true : (b : Bool) → (b || true) ≡ true
    or_true true = refl
    or_true false = refl

-- growing numbers with one at the end that none is above
pub grows-push : (xs : List ℕ) (x : ℕ) → IsNonDecreasing xs → ((n : ℕ) → has xs n ≡ true → n ≤ x) → IsNonDecreasing (xs ++ x ∷ [])
grows-push xs x grow most i j d l within = elim (cases_lt j (length xs)) [
  | inl a ↦ (
      let own : get_or xs i d ≤ get_or xs j d = grow i j d l a in
      let e : get_or (xs ++ x ∷ []) i d ≡ get_or xs i d = front xs x i d (omega arith) in
      let f : get_or (xs ++ x ∷ []) j d ≡ get_or xs j d = front xs x j d a in
      omega arith)
  | inr a ↦ (
      let f : get_or (xs ++ x ∷ []) j d ≡ x = back xs x j d a (simp length-append at within) in
      elim (cases_lt i (length xs)) [
        | inl b ↦ (
            let e : get_or (xs ++ x ∷ []) i d ≡ get_or xs i d = front xs x i d b in
            let m : get_or xs i d ≤ x = most (get_or xs i d) (has-at xs (get_or xs i d) i d b refl) in
            omega arith)
        | inr b ↦ (
            let e : get_or (xs ++ x ∷ []) i d ≡ x = back xs x i d b (omega (arith, length-append {A = ℕ})) in
            omega arith)
      ])
]
  where
    front : (xs : List ℕ) (x k d : ℕ) → k < length xs → get_or (xs ++ x ∷ []) k d ≡ get_or xs k d
    front [] x k d h = absurd (omega arith)
    front (y ∷ ys) x zero d h = refl
    front (y ∷ ys) x (suc k) d h = front ys x k d (omega arith)

    back : (xs : List ℕ) (x k d : ℕ) → length xs ≤ k → k < length xs + 1 → get_or (xs ++ x ∷ []) k d ≡ x
    back [] x zero d h l = refl
    back [] x (suc k) d h l = absurd (omega arith)
    back (y ∷ ys) x zero d h l = absurd (omega arith)
    back (y ∷ ys) x (suc k) d h l = back ys x k d (omega arith) (omega arith)

-- so they grow, with it or without
pub grows-kept : (b : Bool) (xs ys : List ℕ) (x : ℕ) → ys ≡ (if b then xs ++ x ∷ [] else xs) → IsNonDecreasing xs → ((n : ℕ) → has xs n ≡ true → n ≤ x) → IsNonDecreasing ys
grows-kept true xs ys x is grow most = subst IsNonDecreasing (sym is) (grows-push xs x grow most)
grows-kept false xs ys x is grow most = subst IsNonDecreasing (sym is) grow
