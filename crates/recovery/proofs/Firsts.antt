-- The first record of each number of a set.
use Rattle.std.proofs.Common.{◌≡◌, ℕ, suc, ◌<◌, ◌≤◌, true, false, nat_eq, List, [], ◌∷◌, ◌++◌, Option, Some, None, if◌then◌else◌, refl, sym, ap, ap₂, ◌∙◌, inl, inr, arith, ◌==◌}
use Rattle.std.proofs.lemmas.Bool.{cases_Bool, eqb-true, eq-eqb}
use Rattle.volume_model.specs.Common.{IsIn, Redo, spelling, numbers_before, first_of, record_at, last_lsn}
use Rattle.redo_record.specs.Common.{IsInOrder}
use Rattle.redo_record.proofs.Before.{before-trans, not_before}
use Rattle.redo_record.proofs.Finding.{lsn-rises}
use Rattle.redo_record.proofs.Places.{list-all}
use Rattle.writer_core.specs.Logs.{is_growing}
use Rattle.recovery.proofs.Links.{record_at-above}

-- the first record of a number, in the order of the list
abbrev pub find : List Redo → ℕ → Option Redo
find [] n = None
find (r ∷ rest) n = if r.lsn == n then Some r else find rest n

abbrev or_else : Option Redo → Option Redo → Option Redo
or_else None o = o
or_else (Some r) o = Some r

before-not : (r s : Redo) → numbers_before (spelling r) (spelling s) ≡ true → numbers_before (spelling s) (spelling r) ≡ false
before-not r s h = elim (cases_Bool (numbers_before (spelling s) (spelling r))) [
  | inl e ↦ absurd (not_before (spelling r) (before-trans (spelling r) (spelling s) (spelling r) h e))
  | inr e ↦ e
]

find-in : (records : List Redo) (n : ℕ) (r : Redo) → find records n ≡ Some r → IsIn r records
find-in [] n r h = cc
find-in (s ∷ rest) n r h =
    elim (cases_Bool (nat_eq s.lsn n)) [
      | inl e ↦ (let q : Some s ≡ Some r = rw e at h in let p : s ≡ r = cc in inl (sym p))
      | inr e ↦ inr (find-in rest n r (rw e at h))
    ]

-- in a list in order the first of a number in order of bytes stands first
pub find-is : (records : List Redo) → IsInOrder records → (n : ℕ) → record_at records n ≡ find records n
find-is [] o n = refl
find-is (r ∷ rest) o n =
    let inner : record_at rest n ≡ find rest n = find-is rest (λ i j d l k. o (suc i) (suc j) d (omega arith) (omega arith)) n in
    let all : (s : Redo) → IsIn s rest → numbers_before (spelling r) (spelling s) ≡ true = list-all (λ s. numbers_before (spelling r) (spelling s) ≡ true) rest (λ k d l. o 0 (suc k) d (omega arith) (omega arith)) in
    elim (cases_Bool (nat_eq r.lsn n)) [
      | inl e ↦ rw e (ap Some (ap (first_of r) inner ∙ first all (find rest n) (λ s h. find-in rest n s h)))
      | inr e ↦ rw e inner
    ]
  where
    first : ((s : Redo) → IsIn s rest → numbers_before (spelling r) (spelling s) ≡ true) → (found : Option Redo) → ((s : Redo) → found ≡ Some s → IsIn s rest) → first_of r found ≡ r
    first all None there = refl
    first all (Some s) there = ap (λ b. if b then s else r) (before-not r s (all s (there s refl)))

find-append : (records : List Redo) (r : Redo) (n : ℕ) → find (records ++ r ∷ []) n ≡ or_else (find records n) (if r.lsn == n then Some r else None)
find-append [] r n = refl
find-append (s ∷ rest) r n =
    elim (cases_Bool (nat_eq s.lsn n)) [
      | inl e ↦ rw e refl
      | inr e ↦ rw e (find-append rest r n)
    ]

module _ (done : List Redo) (r : Redo) where
  more : (n : ℕ) → find (done ++ r ∷ []) n ≡ or_else (find done n) (if r.lsn == n then Some r else None)
  more n = find-append done r n

  -- a record of a greater number is taken
  pub find-new : (log : List Redo) → is_growing log ≡ true → last_lsn log < r.lsn → ((n : ℕ) → record_at log n ≡ find done n) → (n : ℕ) → record_at (r ∷ log) n ≡ find (done ++ r ∷ []) n
  find-new log g above same n =
      elim (cases_Bool (nat_eq r.lsn n)) [
        | inl e ↦ (
            let at : r.lsn ≡ n = eqb-true r.lsn n e in
            let none : record_at log n ≡ None = record_at-above log g n (omega (arith, at, above)) in
            let free : find done n ≡ None = sym (same n) ∙ none in
            let right : find (done ++ r ∷ []) n ≡ Some r = more n ∙ ap₂ or_else free (ap (λ b. if b then Some r else None) e) in
            let left : record_at (r ∷ log) n ≡ Some r = ap (λ b. if b then Some (first_of r (record_at log n)) else record_at log n) e ∙ ap (λ o. Some (first_of r o)) none in
            left ∙ sym right)
        | inr e ↦ (
            let right : find (done ++ r ∷ []) n ≡ find done n = more n ∙ ap (λ b. or_else (find done n) (if b then Some r else None)) e ∙ none_right (find done n) in
            let left : record_at (r ∷ log) n ≡ record_at log n = ap (λ b. if b then Some (first_of r (record_at log n)) else record_at log n) e in
            left ∙ same n ∙ sym right)
      ]
    where
      none_right : (o : Option Redo) → or_else o None ≡ o
      none_right None = refl
      none_right (Some x) = refl

  -- a record of the last number isn't
  pub find-same : (log : List Redo) → is_growing log ≡ true → 0 < r.lsn → last_lsn log ≡ r.lsn → ((n : ℕ) → record_at log n ≡ find done n) → (n : ℕ) → record_at log n ≡ find (done ++ r ∷ []) n
  find-same [] g some at same n = absurd (omega (arith, at))
  find-same (s ∷ older) g some at same n =
      elim (cases_Bool (nat_eq r.lsn n)) [
        | inl e ↦ (
            let here : nat_eq s.lsn n ≡ true = eq-eqb s.lsn n (at ∙ eqb-true r.lsn n e) in
            let left : record_at (s ∷ older) n ≡ Some (first_of s (record_at older n)) = ap (λ b. if b then Some (first_of s (record_at older n)) else record_at older n) here in
            let found : find done n ≡ Some (first_of s (record_at older n)) = sym (same n) ∙ left in
            left ∙ sym (more n ∙ ap (λ o. or_else o (if r.lsn == n then Some r else None)) found))
        | inr e ↦ same n ∙ sym (more n ∙ ap (λ b. or_else (find done n) (if b then Some r else None)) e ∙ none_right (find done n))
      ]
    where
      none_right : (o : Option Redo) → or_else o None ≡ o
      none_right None = refl
      none_right (Some x) = refl

-- the records after one of a list in order have no smaller numbers, and are in order
pub order-next : (r : Redo) (rest : List Redo) → IsInOrder (r ∷ rest) → ((s : Redo) → IsIn s rest → r.lsn ≤ s.lsn) × IsInOrder rest
order-next r rest o = (
  (λ s i. lsn-rises r s (list-all (λ s. numbers_before (spelling r) (spelling s) ≡ true) rest (λ k d l. o 0 (suc k) d (omega arith) (omega arith)) s i)),
  λ i j d l k. o (suc i) (suc j) d (omega arith) (omega arith),
)
