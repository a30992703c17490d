-- The cut of the first records of a list.
use Rattle.std.proofs.Common.{◌≡◌, ℕ, zero, suc, ◌+◌, ◌<◌, ◌≤◌, Bool, true, false, ◌&&◌, ◌||◌, nat_eq, nat_lt, cond, List, [], ◌∷◌, map, take, length, get_or, inl, inr, if◌then◌else◌, refl, sym, ap, ap₂, ◌∙◌, subst, arith, ◌==◌}
use Rattle.std.proofs.lemmas.Bool.{cases_Bool, cases_lt, or_right, and_from, true≢false, eqb-true, eq-eqb, ne_eqb, lt-ltb}
use Rattle.std.proofs.lemmas.List.{take_more, map-append}
use Rattle.volume_model.specs.Common.{added, Redo, last_lsn, cut_of}
use Rattle.redo_record.specs.declared.record_set.RecordSet.{RecordSet}
use Rattle.redo_record.specs.Common.{packets_of, redo_of}
use Rattle.redo_record.proofs.KeptRanges.{shared_redo-ranges}
use Rattle.writer_core.specs.Logs.{log_of_set, is_growing}
use Rattle.writer_core.proofs.Growing.{both}
use Rattle.writer_core.proofs.Joined.{log_of-set, older-grows}
use Rattle.writer_core.proofs.Finding.{all-log}
use Rattle.redo_record.specs.declared.«record».Record.{Record}
use Rattle.recovery.specs.Chains.{leads}
use Rattle.recovery.specs.CutReader.{log_of_records, IsCutOf}
use Rattle.recovery.specs.GroundedLsns.{is_grounded}
use Rattle.recovery.specs.declared.cut_reader.CutReader.{CutReader}
use Rattle.recovery.proofs.Links.{IsBack, leads-above, cut-next}
use Rattle.recovery.proofs.Sharing.{added-more}

-- a set's records link to smaller numbers
pub set-back : (set : RecordSet) → IsBack (log_of_set set)
set-back set = subst IsBack (log_of-set set) (all-log (λ r. r.prev_volume < r.lsn) (packets_of set) (λ k d l. (shared_redo-ranges (get_or (packets_of set) k d)).prev_volume_before))

-- each record's number is above those of the records before it, in a list of records
rises : (records : List Record) (i : ℕ) (kept : List Redo) → is_growing (added (map redo_of records) kept) ≡ true → is_growing (added (map redo_of (take i records)) kept) ≡ true
rises [] zero kept h = h
rises [] (suc i) kept h = h
rises (x ∷ records) zero kept h = falls records (redo_of x) kept h
  where
    falls : (xs : List Record) (r : Redo) (older : List Redo) → is_growing (added (map redo_of xs) (r ∷ older)) ≡ true → is_growing older ≡ true
    falls [] r older g = (both (last_lsn older) r.lsn (is_growing older) g).1
    falls (y ∷ ys) r older g = (both (last_lsn older) r.lsn (is_growing older) (falls ys (redo_of y) (r ∷ older) g)).1
rises (x ∷ records) (suc i) kept h = rises records i (redo_of x ∷ kept) h

pub records-growing : (records : List Record) (i : ℕ) → is_growing (log_of_records records) ≡ true → is_growing (log_of_records (take i records)) ≡ true
records-growing records i h = rises records i [] h

pub records-more : (records : List Record) (i : ℕ) (r : Record) → i < length records → r ≡ get_or records i r → log_of_records (take (i + 1) records) ≡ redo_of r ∷ log_of_records (take i records)
records-more records i r within is =
    ap log_of_records (take_more records i r within)
    ∙ ap (λ xs. added xs []) (map-append redo_of (take i records) (get_or records i r ∷ []))
    ∙ added-more (map redo_of (take i records)) (redo_of (get_or records i r)) []
    ∙ ap (λ (x : Record). redo_of x ∷ log_of_records (take i records)) (sym is)

-- the next record of a growing list has a number above those before it
first-above : (r : Redo) (log : List Redo) → is_growing (r ∷ log) ≡ true → last_lsn log < r.lsn
first-above r log grows = (both (last_lsn log) r.lsn (is_growing log) grows).0

pub records-above : (records : List Record) (i : ℕ) (r : Record) → i < length records → r ≡ get_or records i r → is_growing (log_of_records records) ≡ true → last_lsn (log_of_records (take i records)) < r.lsn
records-above records i r within is growing =
    first-above (redo_of r) (log_of_records (take i records)) (subst (λ l. is_growing l ≡ true) (records-more records i r within is) (records-growing records (i + 1) growing))

or_true : (b : Bool) → (b || true) ≡ true
or_true true = refl
or_true false = refl

-- ---- one record more

module _ (r : Redo) (log : List Redo) (grows : is_growing (r ∷ log) ≡ true) (back : IsBack (r ∷ log)) where
  cut-more : cut_of (r ∷ log) ≡ (if leads log r.prev_volume && r.point then r.lsn else cut_of log)
  cut-more = cut-next r log grows back

  -- a number that leads nowhere adds nothing
  pub leads-not : leads log r.prev_volume ≡ false → (n : ℕ) → leads (r ∷ log) n ≡ leads log n
  leads-not e n = elim (cases_Bool (nat_eq r.lsn n)) [
    | inl h ↦ (
        let (below, rest) = both (last_lsn log) r.lsn (is_growing log) grows in
        let same : r.lsn ≡ n = eqb-true r.lsn n h in
        rw h (e ∙ sym (leads-above log rest n (omega (arith, same, below)))))
    | inr h ↦ rw h refl
  ]

  -- the numbers that lead down to 0 are no greater
  pub grounded-below : (has : ℕ → Bool) → ((n : ℕ) → (n == 0 || has n) ≡ leads log n) → (n : ℕ) → has n ≡ true → n ≤ r.lsn
  grounded-below has before n e = elim (cases_lt r.lsn n) [
    | inl l ↦ (
        let (below, rest) = both (last_lsn log) r.lsn (is_growing log) grows in
        absurd (true≢false (sym (or_right (n == 0) (has n) e) ∙ before n ∙ leads-above log rest n (omega (arith, below)))))
    | inr l ↦ l
  ]

  -- one that leads down to 0 is added
  pub grounded-more : (has has' : ℕ → Bool) → ((n : ℕ) → (n == 0 || has n) ≡ leads log n) → ((q : ℕ) → has' q ≡ (if r.lsn == q then true else has q)) → leads log r.prev_volume ≡ true → (n : ℕ) → (n == 0 || has' n) ≡ leads (r ∷ log) n
  grounded-more has has' before adds grounded n =
      let now : has' n ≡ cond (nat_eq r.lsn n) true (has n) = adds n in
      elim (cases_Bool (nat_eq r.lsn n)) [
        | inl h ↦ (let e : has' n ≡ true = now ∙ ap (λ b. cond b true (has n)) h in rw (e, h, grounded) (or_true (n == 0)))
        | inr h ↦ (let e : has' n ≡ has n = now ∙ ap (λ b. cond b true (has n)) h in rw (e, h) (before n))
      ]

  -- the cut, where the record leads down to 0 or not
  pub cut-grounded : (b : Bool) → leads log r.prev_volume ≡ true → r.point ≡ b → cut_of (r ∷ log) ≡ (if b then r.lsn else cut_of log)
  cut-grounded b grounded point = cut-more ∙ ap₂ (λ x y. if x && y then r.lsn else cut_of log) grounded point

  pub cut-same : leads log r.prev_volume ≡ false → cut_of (r ∷ log) ≡ cut_of log
  cut-same fails = cut-more ∙ ap (λ x. if x && r.point then r.lsn else cut_of log) fails

-- a record more stands in a growing log, and comes after the one that it names
pub more-grows : (r : Redo) (log : List Redo) → is_growing log ≡ true → last_lsn log < r.lsn → is_growing (r ∷ log) ≡ true
more-grows r log grows above = and_from (nat_lt (last_lsn log) r.lsn) (is_growing log) (lt-ltb (last_lsn log) r.lsn above) grows

pub more-back : (r : Redo) (log : List Redo) → r.prev_volume < r.lsn → IsBack log → IsBack (r ∷ log)
more-back r log own back s (inl p) = subst (λ z. z.prev_volume < z.lsn) (sym p) own
more-back r log own back s (inr i) = back s i

-- ---- what the test of the number before says

or_false : (b : Bool) → (b || false) ≡ b
or_false true = refl
or_false false = refl

-- nothing is read
pub cut-of_none : (reader : CutReader) → ((n : ℕ) → is_grounded reader.grounded n ≡ false) → reader.cut ≡ 0 → IsCutOf reader []
cut-of_none reader none cut = record {
  growing = refl;
  back = λ r i. absurd i;
  grounded = λ n. ap (λ b. n == 0 || b) (none n) ∙ or_false (n == 0);
  cut = cut;
}

module _ (old : CutReader) (log : List Redo) (is : IsCutOf old log) (p : ℕ) where
  pub leads-zero : p ≡ 0 → leads log p ≡ true
  leads-zero e = sym (is.grounded p) ∙ ap (λ b. b || is_grounded old.grounded p) (eq-eqb p 0 e)

  pub leads-grounded : is_grounded old.grounded p ≡ true → leads log p ≡ true
  leads-grounded e = sym (is.grounded p) ∙ ap (λ b. p == 0 || b) e ∙ or_true (p == 0)

  pub leads-none : (p ≡ 0 → ⊥) → is_grounded old.grounded p ≡ false → leads log p ≡ false
  leads-none ne e = sym (is.grounded p) ∙ ap (λ b. b || is_grounded old.grounded p) (ne_eqb p 0 ne) ∙ e

module _ (old : CutReader) (r : Redo) (log : List Redo) (own : r.prev_volume < r.lsn) (is : IsCutOf old log) (above : last_lsn log < r.lsn) where
  grows : is_growing (r ∷ log) ≡ true
  grows = more-grows r log is.growing above

  goes_back : IsBack (r ∷ log)
  goes_back = more-back r log own is.back

  -- a record is read that leads down to 0
  pub cut-of_grounded : (new : CutReader) → leads log r.prev_volume ≡ true → ((n : ℕ) → is_grounded new.grounded n ≡ (if r.lsn == n then true else is_grounded old.grounded n)) → (b : Bool) → r.point ≡ b → new.cut ≡ (if b then r.lsn else old.cut) → IsCutOf new (r ∷ log)
  cut-of_grounded new grounded adds b point cut = record {
    growing = grows;
    back = goes_back;
    grounded = grounded-more r log grows goes_back (is_grounded old.grounded) (is_grounded new.grounded) is.grounded adds grounded;
    cut = cut ∙ ap (λ (n : ℕ). if b then r.lsn else n) is.cut ∙ sym (cut-grounded r log grows goes_back b grounded point);
  }

  -- a record is read that leads nowhere
  pub cut-of_same : (new : CutReader) → leads log r.prev_volume ≡ false → ((n : ℕ) → is_grounded new.grounded n ≡ is_grounded old.grounded n) → new.cut ≡ old.cut → IsCutOf new (r ∷ log)
  cut-of_same new none keeps cut = record {
    growing = grows;
    back = goes_back;
    grounded = λ n. ap (λ b. n == 0 || b) (keeps n) ∙ is.grounded n ∙ sym (leads-not r log grows goes_back none n);
    cut = cut ∙ is.cut ∙ sym (cut-same r log grows goes_back none);
  }

  -- the numbers read so far that lead down to 0 are no greater
  pub below-next : (n : ℕ) → is_grounded old.grounded n ≡ true → n ≤ r.lsn
  below-next n e = grounded-below r log grows goes_back (is_grounded old.grounded) is.grounded n e

-- the next record of a growing log has a number above those before it
pub next-above : (r : Redo) (left rest older : List Redo) → left ≡ r ∷ rest → is_growing (added left older) ≡ true → last_lsn older < r.lsn
next-above r left rest older next grows = first-above r older (older-grows rest (r ∷ older) (ap (λ (rs : List Redo). is_growing (added rs older)) (sym next) ∙ grows))
