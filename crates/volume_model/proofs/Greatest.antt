-- The greatest number over a list, as the model's walks find it
use Rattle.std.proofs.Common.{◌≡◌, ℕ, ◌≤◌, max, Bool, true, ◌⊎◌, List, [], ◌∷◌, if◌then◌else◌, refl, ap, subst, inl, inr, arith}
use Rattle.std.proofs.lemmas.Bool.{cases_Bool, cases_lt}
use Rattle.volume_model.specs.Common.{IsIn, IsGreatest}

-- of the elements that pass the greatest number, else 0
abbrev pub greatest_where : {A : Type 0} → (A → Bool) → (A → ℕ) → List A → ℕ
greatest_where test number [] = 0
greatest_where test number (x ∷ xs) = max (if test x then number x else 0) (greatest_where test number xs)

-- the element of this number passes
pub record IsWhere {A : Type 0} (test : A → Bool) (number : A → ℕ) (xs : List A) (n : ℕ) : Type 0 where
  pub element : A
  pub there : IsIn element xs
  pub passes : test element ≡ true
  pub at_least : n ≤ number element
  pub exact : number element ≤ n

-- 0, or the number of an element that passes
greatest_where-is : {A : Type 0} (test : A → Bool) (number : A → ℕ) (xs : List A) → (greatest_where test number xs ≡ 0) ⊎ IsWhere test number xs (greatest_where test number xs)
greatest_where-is test number [] = inl refl
greatest_where-is test number (x ∷ xs) =
    elim (cases_Bool (test x)) [
      | inl e ↦ elim (cases_lt (greatest_where test number xs) (number x)) [
        | inl k ↦ inr (record { element = x; there = inl refl; passes = e; at_least = rw e (omega arith); exact = rw e (omega arith) })
        | inr k ↦ elim (greatest_where-is test number xs) [
          | inl z ↦ inr (record { element = x; there = inl refl; passes = e; at_least = rw e (omega arith); exact = rw e (omega arith) })
          | inr t ↦ (
              inr (record { element = t.element; there = inr t.there; passes = t.passes; at_least = rw e (omega arith); exact = rw e (omega arith) }))
        ]
      ]
      | inr e ↦ elim (greatest_where-is test number xs) [
        | inl z ↦ inl (rw e (omega arith))
        | inr t ↦ (
            inr (record { element = t.element; there = inr t.there; passes = t.passes; at_least = rw e (omega arith); exact = rw e (omega arith) }))
      ]
    ]

-- no element that passes has a greater one
pub greatest_where-above : {A : Type 0} (test : A → Bool) (number : A → ℕ) (xs : List A) (x : A) → IsIn x xs → test x ≡ true → number x ≤ greatest_where test number xs
greatest_where-above test number [] x i h = absurd i
greatest_where-above test number (y ∷ ys) x (inl p) h =
    let h' : test y ≡ true = subst (λ z. test z ≡ true) p h in
    let q : number x ≡ number y = ap number p in
    rw h' (omega arith)
greatest_where-above test number (y ∷ ys) x (inr i) h =
    let ih : number x ≤ greatest_where test number ys = greatest_where-above test number ys x i h in
    more (if test y then number y else 0) (greatest_where test number ys) ih
  where
    more : (a b : ℕ) → number x ≤ b → number x ≤ max a b
    more a b l = omega arith

-- where P holds of the number of each element that passes, and each number of which it holds is at most one of those
pub greatest-from : {A : Type 0} (test : A → Bool) (number : A → ℕ) (xs : List A) (P : ℕ → Type 0) → ((x : A) → IsIn x xs → test x ≡ true → P (number x)) → ((m : ℕ) → P m → (x : A) × IsIn x xs × (test x ≡ true) × (m ≤ number x)) → IsGreatest P (greatest_where test number xs)
greatest-from test number xs P holds below = record {
  is_one = elim (greatest_where-is test number xs) [
    | inl z ↦ inl z
    | inr t ↦ (
        let e : number t.element ≡ greatest_where test number xs = omega arith in
        inr (subst P e (holds t.element t.there t.passes)))
  ];
  at_least_each = λ m p. (
      let (x, i, h, l) = below m p in
      omega (arith, (greatest_where-above test number xs x i h)));
}
