-- The first record of a log that passes a test has the greatest number of those that do
use Rattle.std.proofs.Common.{◌≡◌, ℕ, ◌<◌, ◌≤◌, Bool, true, ◌&&◌, nat_le, eqb, ◌⊎◌, List, [], ◌∷◌, if◌then◌else◌, refl, sym, ap, ◌∙◌, subst, inl, inr, arith}
use Rattle.std.proofs.lemmas.Bool.{cases_Bool, and_parts, and_from, both_ways, eqb-true, eq-eqb, leb-true, leb-false, le-leb}
use Rattle.volume_model.specs.Common.{IsIn, Redo, last_lsn, last_of_block, last_of_group, up_to, last_of_group_below, IsGreatest, NumbersGrow, IsNumberOf, IsOnBlock, IsOfGroupWithin, PartsOfLogs}
use Rattle.volume_model.proofs.Records.{of_group-from, of_group-has}
use Rattle.std.proofs.lemmas.Grind.{common_steps}

-- the number of the first record that passes, else 0
abbrev first_where : (Redo → Bool) → List Redo → ℕ
first_where test [] = 0
first_where test (r ∷ older) = if test r then r.lsn else first_where test older

-- none has a number, or it is that of one that passes
first-is : (test : Redo → Bool) (log : List Redo) → (first_where test log ≡ 0) ⊎ IsNumberOf (λ r. test r ≡ true) log (first_where test log)
first-is test [] = inl refl
first-is test (r ∷ older) = grind (arith, common_steps, cases_Bool, (first-is test older))

-- and no one that passes has a greater one
first-above : (test : Redo → Bool) (log : List Redo) → NumbersGrow log → (s : Redo) → IsIn s log → test s ≡ true → s.lsn ≤ first_where test log
first-above test [] grow s i h = absurd i
first-above test (r ∷ older) grow s i h =
    elim (cases_Bool (test r)) [
      | inl e ↦ grind (arith, common_steps)
      | inr e ↦ rw e (elim i [
        | inl p ↦ absurd (both_ways _ e (subst (λ z. test z ≡ true) p h))
        | inr j ↦ first-above test older grow.2 s j h
      ])
    ]

-- so it is the greatest of those of which what the test shows is so
first-greatest : (test : Redo → Bool) (P : Redo → Type 0) → ((r : Redo) → test r ≡ true → P r) → ((r : Redo) → P r → test r ≡ true) → (log : List Redo) → NumbersGrow log → (n : ℕ) → first_where test log ≡ n → IsGreatest (IsNumberOf P log) n
first-greatest test P to from log grow n is = record {
  is_one = elim (first-is test log) [
    | inl z ↦ inl (sym is ∙ z)
    | inr h ↦ (let (r, i, p, q) = h in inr (r, i, to r p, q ∙ is))
  ];
  at_least_each = λ m h. (let (r, i, p, q) = h in let l : r.lsn ≤ first_where test log = first-above test log grow r i (from r p) in omega (arith, l, q, is));
}

last-first : (log : List Redo) → first_where (λ r. true) log ≡ last_lsn log
last-first [] = refl
last-first (r ∷ older) = refl

group-first : (group : ℕ) (log : List Redo) → first_where (λ r. eqb r.group group) log ≡ last_of_group group log
group-first group [] = refl
group-first group (r ∷ older) = ap (λ (n : ℕ). if eqb r.group group then r.lsn else n) (group-first group older)

block-first : (group block : ℕ) (log : List Redo) → first_where (λ r. eqb r.group group && eqb r.block block) log ≡ last_of_block group block log
block-first group block [] = refl
block-first group block (r ∷ older) = ap (λ (n : ℕ). if eqb r.group group && eqb r.block block then r.lsn else n) (block-first group block older)

within-first : (group limit : ℕ) (log : List Redo) → first_where (λ r. eqb r.group group && nat_le r.lsn limit) log ≡ last_of_group_below group limit log
within-first group limit [] = refl
within-first group limit (r ∷ older) = ap (λ (n : ℕ). if eqb r.group group && nat_le r.lsn limit then r.lsn else n) (within-first group limit older)

-- the log up to a number
up_to-from : (log : List Redo) → NumbersGrow log → (n : ℕ) (r : Redo) → IsIn r (up_to n log) → IsIn r log × (r.lsn ≤ n)
up_to-from [] grow n r i = absurd i
up_to-from (s ∷ older) grow n r i =
    elim (cases_Bool (nat_le s.lsn n)) [
      | inl e ↦ grind (arith, common_steps)
      | inr e ↦ (let h : IsIn r older × (r.lsn ≤ n) = up_to-from older grow.2 n r (rw e at i) in (inr h.0, h.1))
    ]

up_to-has : (log : List Redo) (n : ℕ) (r : Redo) → IsIn r log → r.lsn ≤ n → IsIn r (up_to n log)
up_to-has [] n r i l = absurd i
up_to-has (s ∷ older) n r i l =
    elim (cases_Bool (nat_le s.lsn n)) [
      | inl e ↦ rw e i
      | inr e ↦ rw e (elim i [
        | inl p ↦ absurd (let b : n < s.lsn = leb-false _ _ e in let q : r.lsn ≡ s.lsn = ap (λ z. z.lsn) p in omega arith)
        | inr j ↦ up_to-has older n r j l
      ])
    ]

pub parts_of_logs : PartsOfLogs
parts_of_logs = record {
  up_to_number = λ log grow n r. (up_to-from log grow n r, λ h. up_to-has log n r h.0 h.1);
  of_one_group = λ log group r. (of_group-from group log r, λ h. of_group-has group log r h.0 h.1);
  last = λ log grow. first-greatest (λ r. true) (λ r. Unit {0}) (λ r h. tt) (λ r h. refl) log grow (last_lsn log) (last-first log);
  last_in_group = λ log grow group.
      first-greatest (λ r. eqb r.group group) (λ r. r.group ≡ group) (λ r h. eqb-true r.group group h) (λ r h. eq-eqb r.group group h) log grow (last_of_group group log) (group-first group log);
  last_on_block = λ log grow group block.
      first-greatest (λ r. eqb r.group group && eqb r.block block) (IsOnBlock group block)
      (λ r h. (let parts = and_parts (eqb r.group group) (eqb r.block block) h in record { its_group = eqb-true r.group group parts.0; its_block = eqb-true r.block block parts.1 }))
      (λ r h. and_from (eqb r.group group) (eqb r.block block) (eq-eqb r.group group h.its_group) (eq-eqb r.block block h.its_block)) log grow (last_of_block group block log) (block-first group block log);
  last_within = λ log grow group limit.
      first-greatest (λ r. eqb r.group group && nat_le r.lsn limit) (IsOfGroupWithin group limit)
      (λ r h. (let parts = and_parts (eqb r.group group) (nat_le r.lsn limit) h in record { its_group = eqb-true r.group group parts.0; within = leb-true r.lsn limit parts.1 }))
      (λ r h. and_from (eqb r.group group) (nat_le r.lsn limit) (eq-eqb r.group group h.its_group) (le-leb r.lsn limit h.within)) log grow (last_of_group_below group limit log) (within-first group limit log);
}
