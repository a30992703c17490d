-- The record of a number in a log whose numbers grow.
use Rattle.std.proofs.Common.{◌≡◌, ◌≢◌, ℕ, zero, suc, ◌<◌, ◌≤◌, Bool, true, false, nat_lt, nat_eq, ◌⊎◌, List, [], ◌∷◌, map, length, get_or, Option, Some, None, refl, sym, ap, ◌∙◌, subst, inl, inr, arith, ◌||◌}
use Rattle.std.proofs.lemmas.Bool.{cases_eq, cases_lt, eq-eqb, ltb-true, ltb-false}
use Rattle.std.proofs.lemmas.Bool.Decides.{nat_tests}
use Rattle.std.specs.List.Sorted.{IsNonDecreasingBy, IsPartitionPoint}
use Rattle.volume_model.specs.Common.{IsIn, added, Redo, last_lsn, record_at, is_consistency_point}
use Rattle.volume_model.proofs.Basics.{IsIn-added}
use Rattle.volume_model.proofs.Chains.{record_at-some, record_at-there}
use Rattle.redo_record.specs.declared.shared_record.SharedRecord.{SharedRecord}
use Rattle.redo_record.specs.Common.{shared_redo}
use Rattle.writer_core.specs.Logs.{log_of, is_growing}
use Rattle.writer_core.proofs.Growing.{both}
use Rattle.std.proofs.lemmas.Grind.{common_steps}
use Rattle.std.proofs.Common.{rules}

-- ---- numbers that grow

pub above : (xs : List SharedRecord) (kept : List Redo) → is_growing (added (map shared_redo xs) kept) ≡ true → (is_growing kept ≡ true) × ((k : ℕ) (d : SharedRecord) → k < length xs → last_lsn kept < (shared_redo (get_or xs k d)).lsn)
above [] kept h = (h, λ k d l. absurd (omega arith))
above (x ∷ xs) kept h = grind (arith, common_steps, both, ℕ, (above xs (shared_redo x ∷ kept) h))

pairs : (xs : List SharedRecord) (kept : List Redo) → is_growing (added (map shared_redo xs) kept) ≡ true → (i j : ℕ) (d : SharedRecord) → i < j → j < length xs → (shared_redo (get_or xs i d)).lsn < (shared_redo (get_or xs j d)).lsn
pairs [] kept h i j d l k = absurd (omega arith)
pairs (x ∷ xs) kept h i zero d l k = absurd (omega arith)
pairs (x ∷ xs) kept h zero (suc j) d l k = (above xs (shared_redo x ∷ kept) h).1 j d (omega arith)
pairs (x ∷ xs) kept h (suc i) (suc j) d l k = pairs xs (shared_redo x ∷ kept) h i j d (omega arith) (omega arith)

-- a later record of the log has a greater number
pub lsn-below : (xs : List SharedRecord) → is_growing (log_of xs) ≡ true → (i j : ℕ) (d : SharedRecord) → i < j → j < length xs → (shared_redo (get_or xs i d)).lsn < (shared_redo (get_or xs j d)).lsn
lsn-below xs h = pairs xs [] h

pub lsn-rises : (xs : List SharedRecord) → is_growing (log_of xs) ≡ true → IsNonDecreasingBy (λ (p : SharedRecord). (shared_redo p).lsn) xs
lsn-rises xs h i j d l k = grind (arith, common_steps, cases_lt, lsn-below, (cases_lt i j))

-- ---- the records of a log

pub in-added : {A : Type 0} (xs kept : List A) (x : A) → IsIn x xs ⊎ IsIn x kept → IsIn x (added xs kept)
in-added [] kept x (inl i) = absurd i
in-added [] kept x (inr i) = i
in-added (y ∷ xs) kept x (inl (inl e)) = in-added xs (y ∷ kept) x (inr (inl e))
in-added (y ∷ xs) kept x (inl (inr i)) = in-added xs (y ∷ kept) x (inl i)
in-added (y ∷ xs) kept x (inr i) = in-added xs (y ∷ kept) x (inr (inr i))

in-map : (xs : List SharedRecord) (k : ℕ) (d : SharedRecord) → k < length xs → IsIn (shared_redo (get_or xs k d)) (map shared_redo xs)
in-map [] k d h = absurd (omega arith)
in-map (x ∷ xs) zero d h = inl refl
in-map (x ∷ xs) (suc k) d h = inr (in-map xs k d (omega arith))

all-map : (P : Redo → Type 0) (xs : List SharedRecord) → ((k : ℕ) (d : SharedRecord) → k < length xs → P (shared_redo (get_or xs k d))) → (r : Redo) → IsIn r (map shared_redo xs) → P r
all-map P [] h r i = absurd i
all-map P (x ∷ xs) h r (inl e) = subst P (sym e) (h 0 x (omega arith))
all-map P (x ∷ xs) h r (inr i) = all-map P xs (λ k d l. h (suc k) d (omega arith)) r i

pub in-log : (xs : List SharedRecord) (k : ℕ) (d : SharedRecord) → k < length xs → IsIn (shared_redo (get_or xs k d)) (log_of xs)
in-log xs k d h = in-added (map shared_redo xs) [] (shared_redo (get_or xs k d)) (inl (in-map xs k d h))

pub all-log : (P : Redo → Type 0) (xs : List SharedRecord) → ((k : ℕ) (d : SharedRecord) → k < length xs → P (shared_redo (get_or xs k d))) → (r : Redo) → IsIn r (log_of xs) → P r
all-log P xs h r i = elim (IsIn-added (map shared_redo xs) [] r i) [ inl j ↦ all-map P xs h r j | inr j ↦ absurd j ]

-- ---- the record of a number

pub at_most_last : (log : List Redo) → is_growing log ≡ true → (r : Redo) → IsIn r log → r.lsn ≤ last_lsn log
at_most_last [] h r i = absurd i
at_most_last (s ∷ older) h r (inl e) = subst (λ x. x.lsn ≤ s.lsn) (sym e) (omega arith)
at_most_last (s ∷ older) h r (inr i) =
    let (below, rest) = both (last_lsn older) s.lsn (is_growing older) h in
    omega (arith, (at_most_last older rest r i))

one_of_number : (log : List Redo) → is_growing log ≡ true → (r s : Redo) → IsIn r log → IsIn s log → r.lsn ≡ s.lsn → r ≡ s
one_of_number [] h r s i j e = absurd i
one_of_number (t ∷ older) h r s (inl a) (inl b) e = a ∙ sym b
one_of_number (t ∷ older) h r s (inl a) (inr j) e =
    let (below, rest) = both (last_lsn older) t.lsn (is_growing older) h in
    let inner : s.lsn ≤ last_lsn older = at_most_last older rest s j in
    let same : r.lsn ≡ t.lsn = ap (λ x. x.lsn) a in
    absurd (omega arith)
one_of_number (t ∷ older) h r s (inr i) (inl b) e =
    let (below, rest) = both (last_lsn older) t.lsn (is_growing older) h in
    let inner : r.lsn ≤ last_lsn older = at_most_last older rest r i in
    let same : s.lsn ≡ t.lsn = ap (λ x. x.lsn) b in
    absurd (omega arith)
one_of_number (t ∷ older) h r s (inr i) (inr j) e = one_of_number older (both (last_lsn older) t.lsn (is_growing older) h).1 r s i j e

pub record_at-in : (log : List Redo) → is_growing log ≡ true → (r : Redo) → IsIn r log → record_at log r.lsn ≡ Some r
record_at-in log h r i =
    let (s, found) = record_at-there log r i in
    let (j, e) = record_at-some log r.lsn s found in
    found ∙ ap Some (one_of_number log h s r j i e)

pub record_at-none : (log : List Redo) (n : ℕ) → ((r : Redo) → IsIn r log → r.lsn ≢ n) → record_at log n ≡ None
record_at-none log n none = go (record_at log n) refl
  where
    go : (found : Option Redo) → record_at log n ≡ found → found ≡ None
    go None e = refl
    go (Some r) e = let (i, same) = record_at-some log n r e in absurd (none r i same)

-- the record that is found is a consistency point
abbrev pub is_point_at : Option Redo → Bool
is_point_at None = false
is_point_at (Some r) = r.point

-- a number that is that of a consistency point is so by the one record that has it
pub is_consistency_point-record_at : (log : List Redo) (n : ℕ) → is_growing log ≡ true → is_consistency_point n log ≡ is_point_at (record_at log n)
is_consistency_point-record_at [] n h = refl
is_consistency_point-record_at (r ∷ older) n h =
    let (less, rest) = both (last_lsn older) r.lsn (is_growing older) h in
    let inner : is_consistency_point n older ≡ is_point_at (record_at older n) = is_consistency_point-record_at older n rest in
    elim (cases_eq r.lsn n) [
      | inl e ↦ grind (arith, common_steps, nat_eq, eq-eqb, None, record_at-none, at_most_last, is_point_at)
      | inr ne ↦ (let other : nat_eq r.lsn n ≡ false = grind (arith, nat_tests) in rw other inner)
    ]
  where
    or_false : (b : Bool) → (b || false) ≡ b
    or_false true = refl
    or_false false = refl

-- a search has found the number's record
pub record-found : (log : List SharedRecord) (i n : ℕ) (p : SharedRecord) → is_growing (log_of log) ≡ true → i < length log → p ≡ get_or log i p → (shared_redo p).lsn ≡ n → Some (shared_redo p) ≡ record_at (log_of log) n
record-found log i n p h within is e = grind (arith, common_steps, in-log, record_at-in, (in-log log i p within))

-- it has found the place where the record would stand, and the one there has another number
pub record-missing : (log : List SharedRecord) (i n : ℕ) → is_growing (log_of log) ≡ true → IsPartitionPoint (λ (p : SharedRecord). nat_lt (shared_redo p).lsn n ≡ true) (λ (p : SharedRecord). nat_lt (shared_redo p).lsn n ≡ false) log i → ((d : SharedRecord) → i < length log → (shared_redo (get_or log i d)).lsn ≢ n)
    → record_at (log_of log) n ≡ None
record-missing log i n h split other = record_at-none (log_of log) n (all-log (λ r. r.lsn ≢ n) log differs)
  where
    differs : (k : ℕ) (d : SharedRecord) → k < length log → (shared_redo (get_or log k d)).lsn ≢ n
    differs k d within = search (rules, cases_lt, ltb-true, ltb-false, lsn-below)
