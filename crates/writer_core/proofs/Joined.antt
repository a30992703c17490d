-- A log whose records stand in two lists, one behind the other.
use Rattle.std.proofs.Common.{◌≡◌, ℕ, zero, suc, ◌+◌, ◌-◌, ◌<◌, ◌≤◌, min, true, ◌&&◌, nat_eq, ◌⊎◌, List, [], ◌∷◌, ◌++◌, map, length, get_or, take, drop, add-one, Option, Some, None, append_assoc, refl, sym, ap, ap₂, ◌∙◌, subst, inl, inr, arith, ◌==◌}
use Rattle.std.specs.List.{AllZip, slice_get}
use Rattle.std.proofs.lemmas.Bool.{and_parts, lt-ltb}
use Rattle.std.proofs.lemmas.List.{append-nil, length-map, nil_from_length, take-append-drop}
use Rattle.volume_model.specs.Common.{IsIn, added, every, Redo, spelling, numbers_before, last_lsn, record_at, of_group}
use Rattle.volume_model.proofs.Basics.{IsIn-added, IsIn-append_right}
use Rattle.volume_model.proofs.Chains.{record_at-some, record_at-there}
use Rattle.redo_record.specs.declared.shared_record.SharedRecord.{SharedRecord}
use Rattle.redo_record.specs.declared.record_set.RecordSet.{RecordSet}
use Rattle.redo_record.specs.Common.{IsInOrder, ComesAfter, shared_redo, packets_of, records_of}
use Rattle.redo_record.proofs.Before.{IsBefore}
use Rattle.redo_record.proofs.Copied.{IsCopy, redos-copied}
use Rattle.redo_record.proofs.RunLists.{joined-shown}
use Rattle.redo_record.proofs.Places.{IsOrdered, ordered-from, with_record-after}
use Rattle.writer_core.specs.Logs.{log_of, log_of_set, is_growing}
use Rattle.writer_core.specs.declared.log.Log.{Log}
use Rattle.writer_core.proofs.Growing.{both}
use Rattle.writer_core.proofs.Finding.{in-added, record_at-in, record_at-none}
use Rattle.std.proofs.lemmas.Grind.{common_steps}

-- ---- the records of a set

pub shown-set : (set : RecordSet) → map shared_redo (packets_of set) ≡ records_of set
shown-set set = sym (joined-shown set.runs.items)

pub log_of-set : (set : RecordSet) → log_of (packets_of set) ≡ log_of_set set
log_of-set set = ap (λ (rs : List Redo). added rs []) (shown-set set)

-- ---- two lists

added-append : (xs ys : List SharedRecord) (kept : List Redo) → added (map shared_redo (xs ++ ys)) kept ≡ added (map shared_redo ys) (added (map shared_redo xs) kept)
added-append [] ys kept = refl
added-append (x ∷ xs) ys kept = added-append xs ys (shared_redo x ∷ kept)

-- the newer records stand before the older ones
pub log_of-append : (xs ys : List SharedRecord) → log_of (xs ++ ys) ≡ added (map shared_redo ys) (log_of xs)
log_of-append xs ys = added-append xs ys []

-- a log grows up to each of its records
pub older-grows : (rs : List Redo) (kept : List Redo) → is_growing (added rs kept) ≡ true → is_growing kept ≡ true
older-grows [] kept h = h
older-grows (r ∷ rs) kept h = (both (last_lsn kept) r.lsn (is_growing kept) (older-grows rs (r ∷ kept) h)).1

-- and from each of them on
front-grows : (newer kept : List Redo) → is_growing (newer ++ kept) ≡ true → is_growing newer ≡ true
front-grows [] kept h = refl
front-grows (r ∷ []) kept h = grind (arith, common_steps)
front-grows (r ∷ s ∷ newer) kept h =
    let (above, rest) = both s.lsn r.lsn (is_growing (s ∷ newer ++ kept)) h in
    ap₂ (λ a b. a && b) (lt-ltb s.lsn r.lsn above) (front-grows (s ∷ newer) kept rest)

newer-grows : (rs newer kept : List Redo) → is_growing (added rs (newer ++ kept)) ≡ true → is_growing (added rs newer) ≡ true
newer-grows [] newer kept h = front-grows newer kept h
newer-grows (r ∷ rs) newer kept h = newer-grows rs (r ∷ newer) kept h

-- the front of a log grows, and so does the rest
pub found-grows : (xs ys : List SharedRecord) → is_growing (log_of (xs ++ ys)) ≡ true → is_growing (log_of xs) ≡ true
found-grows xs ys h = older-grows (map shared_redo ys) (log_of xs) (ap is_growing (sym (log_of-append xs ys)) ∙ h)

pub issued-grows : (xs ys : List SharedRecord) → is_growing (log_of (xs ++ ys)) ≡ true → is_growing (log_of ys) ≡ true
issued-grows xs ys h = newer-grows (map shared_redo ys) [] (log_of xs) (ap is_growing (sym (log_of-append xs ys)) ∙ h)

-- ---- the record of a number

-- the record of a number is the same in a log that grows, whichever end it is read from
pub growing-same : (records : List Redo) → is_growing (added records []) ≡ true → (n : ℕ) → record_at (added records []) n ≡ record_at records n
growing-same records g n = go (record_at records n) refl
  where
    go : (found : Option Redo) → record_at records n ≡ found → record_at (added records []) n ≡ record_at records n
    go (Some r) found = grind (arith, common_steps, record_at-some, Some, record_at-in, in-added, (record_at-some records n r found), (Some r))
    go None found =
        record_at-none (added records []) n (λ r i e. elim (IsIn-added records [] r i) [
          | inl j ↦ (let (s, there) = record_at-there records r j in apart s (sym (subst (λ m. record_at records m ≡ Some s) e there) ∙ found))
          | inr j ↦ absurd j
        ])
        ∙ sym found
      where
        apart : (s : Redo) → Some s ≡ None → ⊥
        apart s h = cc

module _ (xs ys : List SharedRecord) (grows : is_growing (log_of (xs ++ ys)) ≡ true) (n : ℕ) where
  in-whole : (r : Redo) → IsIn r (map shared_redo ys) ⊎ IsIn r (log_of xs) → IsIn r (log_of (xs ++ ys))
  in-whole r i = subst (IsIn r) (sym (log_of-append xs ys)) (in-added (map shared_redo ys) (log_of xs) r i)

  at-whole : (r : Redo) → IsIn r (log_of (xs ++ ys)) → r.lsn ≡ n → record_at (log_of (xs ++ ys)) n ≡ Some r
  at-whole r i e = subst (λ m. record_at (log_of (xs ++ ys)) m ≡ Some r) e (record_at-in (log_of (xs ++ ys)) grows r i)

  -- it is one of the front
  pub at-found : (r : Redo) → record_at (log_of xs) n ≡ Some r → record_at (log_of (xs ++ ys)) n ≡ Some r
  at-found r found = let (i, e) = record_at-some (log_of xs) n r found in at-whole r (in-whole r (inr i)) e

  missing : (log : List Redo) → record_at log n ≡ None → (r : Redo) → IsIn r log → r.lsn ≡ n → ⊥
  missing log none r i e = grind (arith, common_steps, record_at-there, Some, None)

  of-issued : (r : Redo) → IsIn r (log_of ys) → IsIn r (map shared_redo ys)
  of-issued r i = elim (IsIn-added (map shared_redo ys) [] r i) [ inl j ↦ j | inr j ↦ absurd j ]

  -- it is none of the front
  pub at-issued : record_at (log_of xs) n ≡ None → record_at (log_of (xs ++ ys)) n ≡ record_at (log_of ys) n
  at-issued none = go (record_at (log_of ys) n) refl
    where
      go : (found : Option Redo) → record_at (log_of ys) n ≡ found → record_at (log_of (xs ++ ys)) n ≡ record_at (log_of ys) n
      go (Some r) found = (let (i, e) = record_at-some (log_of ys) n r found in at-whole r (in-whole r (inl (of-issued r i))) e ∙ sym found)
      go None found =
          record_at-none (log_of (xs ++ ys)) n (λ r i e. elim (IsIn-added (map shared_redo ys) (log_of xs) r (subst (IsIn r) (log_of-append xs ys) i)) [
            | inl j ↦ missing (log_of ys) found r (in-added (map shared_redo ys) [] r (inl j)) e
            | inr j ↦ missing (log_of xs) none r j e
          ])
          ∙ sym found

-- ---- what fewer records leave

-- the first of the rest's packets, behind the front
pub taken-behind : (xs ys : List SharedRecord) (n : ℕ) → length xs ≤ n → xs ++ take (n - length xs) ys ≡ take n (xs ++ ys)
taken-behind [] ys n h = (let whole : n - 0 ≡ n = omega arith in ap (λ m. take m ys) whole)
taken-behind (x ∷ xs) ys zero h = absurd (omega arith)
taken-behind (x ∷ xs) ys (suc n) h = grind (arith, common_steps, (taken-behind xs ys n (omega arith)))

pub taken-grows : (packets : List SharedRecord) (n : ℕ) → is_growing (log_of packets) ≡ true → is_growing (log_of (take n packets)) ≡ true
taken-grows packets n h = found-grows (take n packets) (drop n packets) (subst (λ (ps : List SharedRecord). is_growing (log_of ps) ≡ true) (sym (take-append-drop n packets)) h)

-- the clones of both lists
pub joined-copied : (set other : RecordSet) (ys zs : List SharedRecord) → records_of other ≡ records_of set → AllZip IsCopy ys zs → log_of (packets_of other ++ zs) ≡ log_of (packets_of set ++ ys)
joined-copied set other ys zs same copied = grind (arith, common_steps, log_of-append, redos-copied, log_of-set)

-- how many packets a set has
pub length-set : (set : RecordSet) → length (packets_of set) ≡ length (records_of set)
length-set set = sym (length-map (packets_of set) shared_redo) ∙ ap length (shown-set set)

pub length-same : (set other : RecordSet) → records_of other ≡ records_of set → length (packets_of other) ≡ length (packets_of set)
length-same set other same = length-set other ∙ ap length same ∙ sym (length-set set)

-- a set with no record has no packet
pub no-packets : (set : RecordSet) → records_of set ≡ [] → packets_of set ≡ []
no-packets set none = nil_from_length (packets_of set) (length-set set ∙ ap length none)

-- ---- the records of one group

before-here : (older : List Redo) (r : Redo) (rest : List Redo) → IsOrdered (older ++ r ∷ rest) → ComesAfter older r
unfolding IsBefore
before-here (x ∷ older) r rest o s (inl e) = subst (λ z. numbers_before (spelling z) (spelling r) ≡ true) (sym e) (o.0 r (IsIn-append_right older (r ∷ rest) r (inl refl)))
before-here (x ∷ older) r rest o s (inr i) = before-here older r rest o.1 s i
before-here [] r rest o s i = absurd i

all-of : (group : ℕ) (rs older kept : List Redo) → of_group group older ≡ kept → IsOrdered (kept ++ rs) → every (λ r. r.group == group) rs ≡ true → of_group group (added rs older) ≡ kept ++ rs
all-of group [] older kept is order all = is ∙ sym (append-nil kept)
all-of group (r ∷ rs) older kept is order all =
    let parts : (nat_eq r.group group ≡ true) × (every (λ s. s.group == group) rs ≡ true) = and_parts _ _ all in
    let one : of_group group (r ∷ older) ≡ kept ++ r ∷ [] = grind (arith, common_steps, with_record-after, before-here) in
    let split : (kept ++ r ∷ []) ++ rs ≡ kept ++ r ∷ rs = append_assoc kept (r ∷ []) rs in
    all-of group rs (r ∷ older) (kept ++ r ∷ []) one (subst IsOrdered (sym split) order) parts.1 ∙ split

-- a set all of whose records are of the group
pub of_group-all : (group : ℕ) (rs : List Redo) → IsInOrder rs → every (λ r. r.group == group) rs ≡ true → of_group group (added rs []) ≡ rs
of_group-all group rs order all = all-of group rs [] [] refl (ordered-from rs order) all

-- what a log began with grows
pub begun-grows : (log : Log) → is_growing (log_of_set log.found) ≡ true
begun-grows log = ap is_growing (sym (log_of-set log.found)) ∙ found-grows (packets_of log.found) log.issued.items log.growing

-- the next of the packets from a place on
next-read : (xs : List SharedRecord) (n : ℕ) (p : SharedRecord) (rest : List SharedRecord) → drop n xs ≡ p ∷ rest → (n < length xs) × (p ≡ get_or xs n p) × (rest ≡ drop (suc n) xs)
next-read [] zero p rest e = absurd cc
next-read [] (suc n) p rest e = absurd cc
next-read (x ∷ xs) zero p rest e = (omega arith, cc, cc)
next-read (x ∷ xs) (suc n) p rest e = (let (within, is, more) = next-read xs n p rest e in (omega arith, is, more))

pub left-read : (xs : List SharedRecord) (n : ℕ) (p : SharedRecord) (rest : List SharedRecord) → drop n xs ≡ p ∷ rest → (n < length xs) × (p ≡ get_or xs n p) × (rest ≡ drop (n + 1) xs)
left-read xs n p rest e = (let (within, is, more) = next-read xs n p rest e in (within, is, more ∙ ap (λ m. drop m xs) (sym (add-one n))))

pub left-none : (xs : List SharedRecord) (n : ℕ) → drop n xs ≡ [] → length xs ≤ n
left-none [] n e = omega arith
left-none (x ∷ xs) zero e = absurd cc
left-none (x ∷ xs) (suc n) e = omega (arith, left-none xs n e)

-- what stands behind the first of two lists, from a place on
drop-capped : {A : Type 0} (n m : ℕ) (ys : List A) → m ≡ min n (length ys) → drop m ys ≡ drop n ys
drop-capped zero m ys e = (let z : m ≡ 0 = omega (arith, e) in ap (λ k. drop k ys) z)
drop-capped {A} (suc n) m [] e = (let none : List A = [] in let z : m ≡ 0 = omega (arith, e) in ap (λ k. drop k none) z)
drop-capped (suc n) zero (y ∷ ys) e = absurd (omega arith)
drop-capped (suc n) (suc m) (y ∷ ys) e = drop-capped n m ys (omega arith)

pub drop-behind : {A : Type 0} (xs ys : List A) (n m : ℕ) → length xs ≤ n → m ≡ min (n - length xs) (length ys) → drop m ys ≡ drop n (xs ++ ys)
drop-behind [] ys n m h e = drop-capped n m ys (omega arith)
drop-behind (x ∷ xs) ys zero m h e = absurd (omega arith)
drop-behind (x ∷ xs) ys (suc n) m h e = drop-behind xs ys n m (omega arith) (omega arith)

-- the last record of both lists
last-added : (ys : List SharedRecord) (kept : List Redo) (k : ℕ) (p : SharedRecord) → length ys ≡ k + 1 → p ≡ get_or ys k p → (shared_redo p).lsn ≡ last_lsn (added (map shared_redo ys) kept)
last-added [] kept k p many is = absurd (omega arith)
last-added (y ∷ []) kept zero p many is = ap (λ (q : SharedRecord). (shared_redo q).lsn) is
last-added (y ∷ []) kept (suc k) p many is = absurd (omega arith)
last-added (y ∷ z ∷ ys) kept zero p many is = absurd (omega arith)
last-added (y ∷ z ∷ ys) kept (suc k) p many is = last-added (z ∷ ys) (shared_redo y ∷ kept) k p (omega arith) is

-- of a set, the last record is the last one
last-shown : (records kept : List Redo) (r : Redo) → Some r ≡ slice_get records (length records - 1) → r.lsn ≡ last_lsn (added records kept)
last-shown [] kept r e = cc
last-shown (s ∷ []) kept r e = (let same : r ≡ s = cc in ap (λ (q : Redo). q.lsn) same)
last-shown (s ∷ t ∷ records) kept r e =
    let n : length (s ∷ t ∷ records) - 1 ≡ suc (length (t ∷ records) - 1) = omega arith in
    last-shown (t ∷ records) (s ∷ kept) r (e ∙ ap (slice_get (s ∷ t ∷ records)) n)

pub last-of_set : (set : RecordSet) (ys : List SharedRecord) (r : Redo) → length ys ≤ 0 → Some r ≡ slice_get (records_of set) (length (records_of set) - 1) → r.lsn ≡ last_lsn (log_of (packets_of set ++ ys))
last-of_set set [] r none e = last-shown (records_of set) [] r e ∙ ap last_lsn (sym (ap log_of (append-nil (packets_of set)) ∙ log_of-set set))
last-of_set set (y ∷ ys) r none e = absurd (omega arith)

pub last-behind : (xs ys : List SharedRecord) (k : ℕ) (p : SharedRecord) → length ys ≡ k + 1 → p ≡ get_or ys k p → (shared_redo p).lsn ≡ last_lsn (log_of (xs ++ ys))
last-behind xs ys k p many is = last-added ys (log_of xs) k p many is ∙ ap last_lsn (sym (log_of-append xs ys))
