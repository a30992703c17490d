-- Lines of records, and their complete points.
use Rattle.std.proofs.Common.{◌≡◌, ℕ, zero, suc, ◌+◌, ◌<◌, ◌≤◌, ◌==◌, nat_le, true, false, ◌⊎◌, Option, Some, None, List, [], ◌∷◌, ◌++◌, length, get_or, take, drop, refl, sym, ap, ◌∙◌, subst, inl, inr, arith, take-append-drop}
use Rattle.std.proofs.lemmas.Bool.{cases_Bool, and_parts, and_from, eqb-true, eqb-false, eq-eqb, ne_eqb}
use Rattle.std.proofs.lemmas.Bool.Decides.{nat_tests}
use Rattle.std.proofs.lemmas.Option.{slice_get-get_or, get_or_from_slice_get}
use Rattle.std.specs.Borrow.{Bor}
use Rattle.std.specs.List.{insert, slice_get}
use Rattle.volume_model.specs.Common.{IsIn, Redo, scl, with_record, IsGrounded, IsGroundedNumber, GroupLinksFall, from_none, from_one}
use Rattle.volume_model.proofs.Basics.{IsIn-append_right}
use Rattle.redo_record.specs.declared.record_set.RecordSet.{RecordSet}
use Rattle.redo_record.specs.declared.run_place.RunPlace.{RunPlace}
use Rattle.redo_record.specs.declared.shared_record.SharedRecord.{SharedRecord}
use Rattle.redo_record.specs.Common.{records_of, runs_of, index_of, record_before, IsPlaceIn}
use Rattle.segment_core.specs.Chains.{chain_end, is_line, lsn_before, IsFoundAt}
use Rattle.segment_core.proofs.Chained.{fewer_fall, point_is}

-- a line, as a relation
abbrev pub IsLine : ℕ → List Redo → Type 0
IsLine n [] = Unit {0}
IsLine n (r ∷ rest) = (n ≤ r.prev_group) × IsLine r.lsn rest

le-true : (m n : ℕ) → nat_le m n ≡ true → m ≤ n
le-true m n h = grind (arith, nat_tests)

true-le : (m n : ℕ) → m ≤ n → nat_le m n ≡ true
true-le m n h = grind (arith, nat_tests)

false-le : (m n : ℕ) → n < m → nat_le m n ≡ false
false-le m n h = grind (arith, nat_tests)

pub line-from : (n : ℕ) (records : List Redo) → is_line n records ≡ true → IsLine n records
line-from n [] h = tt
line-from n (r ∷ rest) h =
    let parts : (nat_le n r.prev_group ≡ true) × (is_line r.lsn rest ≡ true) = and_parts (nat_le n r.prev_group) (is_line r.lsn rest) h in
    (le-true n r.prev_group parts.0, line-from r.lsn rest parts.1)

pub line-to : (n : ℕ) (records : List Redo) → IsLine n records → is_line n records ≡ true
line-to n [] line = refl
line-to n (r ∷ rest) line = and_from (nat_le n r.prev_group) (is_line r.lsn rest) (true-le n r.prev_group line.0) (line-to r.lsn rest line.1)

-- it stays one with a record more, between its neighbours
pub line-insert : (n : ℕ) (records : List Redo) (i : ℕ) (r : Redo) → IsLine n records → lsn_before n records i ≤ r.prev_group → ((d : Redo) → i < length records → r.lsn ≤ (get_or records i d).prev_group) → IsLine n (insert records i r)
line-insert n [] zero r line low high = (low, tt)
line-insert n [] (suc i) r line low high = (low, tt)
line-insert n (x ∷ xs) zero r line low high = (low, (high x (omega arith), line.1))
line-insert n (x ∷ xs) (suc i) r line low high = (line.0, line-insert x.lsn xs i r line.1 low (λ d l. high d (omega arith)))

-- in a line that begins at a number no record links below it
line-below : (n : ℕ) (records : List Redo) → GroupLinksFall records → IsLine n records → (r : Redo) → IsIn r records → n ≤ r.prev_group
line-below n [] fall line r i = absurd i
line-below n (s ∷ rest) fall line r (inl p) = subst (λ (t : Redo). n ≤ t.prev_group) (sym p) line.0
line-below n (s ∷ rest) fall line r (inr i) =
    let up : s.prev_group < s.lsn = fall s (inl refl) in
    let low : n ≤ s.prev_group = line.0 in
    let more : s.lsn ≤ r.prev_group = line-below s.lsn rest (λ t j. fall t (inr j)) line.1 r i in
    omega arith

-- a chain ends no lower than it begins
rises : (n : ℕ) (records : List Redo) → GroupLinksFall records → n ≤ chain_end n records
rises n [] fall = omega arith
rises n (s ∷ rest) fall =
    elim (cases_Bool (s.prev_group == n)) [
      | inl e ↦ rw e (
          let up : s.prev_group < s.lsn = fall s (inl refl) in
          let at : s.prev_group ≡ n = eqb-true s.prev_group n e in
          let more : s.lsn ≤ chain_end s.lsn rest = rises s.lsn rest (λ t j. fall t (inr j)) in
          omega arith)
      | inr e ↦ rw e (omega arith)
    ]

-- in a line it goes on past each record that links no higher than its end
passed : (n : ℕ) (records : List Redo) → GroupLinksFall records → IsLine n records → (r : Redo) → IsIn r records → r.prev_group ≤ chain_end n records → r.lsn ≤ chain_end n records
passed n [] fall line r i low = absurd i
passed n (s ∷ rest) fall line r i low =
    elim (cases_Bool (s.prev_group == n)) [
      | inl e ↦ rw e (elim i [
        | inl p ↦ subst (λ (t : Redo). t.lsn ≤ chain_end s.lsn rest) (sym p) (rises s.lsn rest (λ t j. fall t (inr j)))
        | inr j ↦ passed s.lsn rest (λ t k. fall t (inr k)) line.1 r j (rw e at low)
      ])
      | inr e ↦ absurd (
          let down : r.prev_group ≤ n = rw e at low in
          let up : s.prev_group < s.lsn = fall s (inl refl) in
          let from : n ≤ s.prev_group = line.0 in
          let at_least : s.prev_group ≤ r.prev_group = elim i [
            | inl p ↦ subst (λ (t : Redo). s.prev_group ≤ t.prev_group) (sym p) (omega arith)
            | inr j ↦ (let more : s.lsn ≤ r.prev_group = line-below s.lsn rest (λ t k. fall t (inr k)) line.1 r j in omega arith)
          ] in
          eqb-false s.prev_group n e (omega arith))
    ]

-- the number is 0 or that of a grounded record
abbrev IsReached : List Redo → ℕ → Type 0
IsReached records n = (n ≡ 0) ⊎ IsGroundedNumber records n

lands : (all : List Redo) (r : Redo) (n : ℕ) → IsIn r all → r.prev_group ≡ n → IsReached all n → IsGrounded all r
lands all r n i e (inl z) = from_none r i (e ∙ z)
lands all r n i e (inr p) = let (b, g, f) = p in from_one r b i g (f ∙ sym e)

end-reached : (all : List Redo) (n : ℕ) (records : List Redo) → ((r : Redo) → IsIn r records → IsIn r all) → IsReached all n → IsReached all (chain_end n records)
end-reached all n [] within reached = reached
end-reached all n (s ∷ rest) within reached =
    elim (cases_Bool (s.prev_group == n)) [
      | inl e ↦ rw e (end-reached all s.lsn rest (λ t j. within t (inr j)) (inr (s, lands all s n (within s (inl refl)) (eqb-true s.prev_group n e) reached, refl)))
      | inr e ↦ rw e reached
    ]

-- the complete point of a line is the end of its chain
pub line-point : (records : List Redo) → GroupLinksFall records → IsLine 0 records → chain_end 0 records ≡ scl records
line-point records fall line = point_is records (chain_end 0 records) fall (record { is_one = end-reached records 0 records (λ r i. i) (inl refl); at_least_each = each })
  where
    low : (r : Redo) → IsGrounded records r → r.lsn ≤ chain_end 0 records
    low t (from_none r i e) = passed 0 records fall line r i (omega arith)
    low t (from_one r before i g e) = passed 0 records fall line r i (let ih : before.lsn ≤ chain_end 0 records = low before g in omega arith)

    each : (n : ℕ) → IsGroundedNumber records n → n ≤ chain_end 0 records
    each n p = let (r, g, e) = p in subst (λ (k : ℕ). k ≤ chain_end 0 records) e (low r g)

-- a record that links to the end of the chain takes it on from there
through : (n : ℕ) (xs ys : List Redo) (r : Redo) → GroupLinksFall (xs ++ r ∷ ys) → IsLine n (xs ++ r ∷ ys) → chain_end n (xs ++ ys) ≡ r.prev_group → chain_end n (xs ++ r ∷ ys) ≡ chain_end r.lsn ys
through n [] ys r fall line h = rw (eq-eqb r.prev_group n (at ys line.1 h)) refl
  where
    at : (ys : List Redo) → IsLine r.lsn ys → chain_end n ys ≡ r.prev_group → r.prev_group ≡ n
    at [] more h = sym h
    at (s ∷ rest) more h = elim (cases_Bool (s.prev_group == n)) [
      | inl e ↦ absurd (
          let same : s.prev_group ≡ n = eqb-true s.prev_group n e in
          let up : r.prev_group < r.lsn = fall r (inl refl) in
          let low : n ≤ r.prev_group = line.0 in
          let high : r.lsn ≤ s.prev_group = more.0 in
          omega arith)
      | inr e ↦ sym (rw e at h)
    ]
through n (x ∷ xs) ys r fall line h =
    elim (cases_Bool (x.prev_group == n)) [
      | inl e ↦ rw e (through x.lsn xs ys r (λ t j. fall t (inr j)) line.1 (rw e at h))
      | inr e ↦ absurd (
          let same : n ≡ r.prev_group = rw e at h in
          let up : x.prev_group < x.lsn = fall x (inl refl) in
          let low : n ≤ x.prev_group = line.0 in
          let high : x.lsn ≤ r.prev_group = line-below x.lsn (xs ++ r ∷ ys) (λ t j. fall t (inr j)) line.1 r (IsIn-append_right xs (r ∷ ys) r (inl refl)) in
          omega arith)
    ]

pub scl-line : (r : Redo) (records : List Redo) (i : ℕ) → GroupLinksFall (with_record r records) → with_record r records ≡ insert records i r → is_line 0 records ≡ true → is_line 0 (with_record r records) ≡ true → r.prev_group ≡ scl records
    → chain_end r.lsn (drop i records) ≡ scl (with_record r records)
scl-line r records i fall joins line more at =
    let now : IsLine 0 (with_record r records) = line-from 0 (with_record r records) more in
    sym (through 0 (take i records) (drop i records) r (subst GroupLinksFall joins fall) (subst (IsLine 0) joins now)
    (ap (chain_end 0) (take-append-drop i records) ∙ line-point records (fewer_fall r records fall) (line-from 0 records line) ∙ sym at))
    ∙ ap (chain_end 0) (sym joins)
    ∙ line-point (with_record r records) fall now

-- ---- the walk along a chain

-- The place of the walk and the record found there. The walk's end is this one.
pub record IsOnTheWay (set : RecordSet) (place : RunPlace) (found : Option (Bor SharedRecord)) (last end : ℕ) : Type 0 where
  pub inside : IsPlaceIn (runs_of set) place
  pub here : IsFoundAt set place found
  pub same : chain_end last (drop (index_of (runs_of set) place) (records_of set)) ≡ end

pub drop-here : (records : List Redo) (i : ℕ) (r : Redo) → Some r ≡ slice_get records i → drop i records ≡ r ∷ drop (i + 1) records
drop-here [] i r h = cc
drop-here (x ∷ xs) zero r h = let e : r ≡ x = cc in ap (λ (s : Redo). s ∷ xs) (sym e)
drop-here (x ∷ xs) (suc i) r h = let n : suc i + 1 ≡ suc (i + 1) = omega arith in drop-here xs i r h ∙ ap (λ (k : ℕ). r ∷ drop k (x ∷ xs)) (sym n)

pub drop-past : (records : List Redo) (i : ℕ) → None ≡ slice_get records i → drop i records ≡ []
drop-past [] zero h = refl
drop-past [] (suc i) h = refl
drop-past (x ∷ xs) zero h = cc
drop-past (x ∷ xs) (suc i) h = drop-past xs i h

pub chain-on : (n : ℕ) (r : Redo) (rest : List Redo) → r.prev_group ≡ n → chain_end n (r ∷ rest) ≡ chain_end r.lsn rest
chain-on n r rest e = rw (eq-eqb r.prev_group n e) refl

pub chain-ends : (n : ℕ) (r : Redo) (rest : List Redo) → (r.prev_group ≡ n → ⊥) → chain_end n (r ∷ rest) ≡ n
chain-ends n r rest ne = rw (ne_eqb r.prev_group n ne) refl

-- ---- the pass that tests for a line

pub line-next : (n : ℕ) (r : Redo) (rest : List Redo) → n ≤ r.prev_group → is_line n (r ∷ rest) ≡ is_line r.lsn rest
line-next n r rest h = rw (true-le n r.prev_group h) refl

pub line-broken : (n : ℕ) (r : Redo) (rest : List Redo) → r.prev_group < n → is_line n (r ∷ rest) ≡ false
line-broken n r rest h = rw (false-le n r.prev_group h) refl

-- ---- the neighbours of a place

pub before-some : (n : ℕ) (records : List Redo) (i : ℕ) (s : Redo) → Some s ≡ record_before records i → lsn_before n records i ≡ s.lsn
before-some n [] zero s h = cc
before-some n [] (suc i) s h = cc
before-some n (x ∷ xs) zero s h = cc
before-some n (x ∷ xs) (suc zero) s h = let e : s ≡ x = cc in ap (λ (r : Redo). r.lsn) (sym e)
before-some n (x ∷ xs) (suc (suc i)) s h = before-some x.lsn xs (suc i) s h

none-some : (found : Option Redo) (s : Redo) → None ≡ found → found ≡ Some s → ⊥
none-some found s h e = cc

pub before-none : (n : ℕ) (records : List Redo) (i : ℕ) → i ≤ length records → None ≡ record_before records i → lsn_before n records i ≡ n
before-none n records zero l h = refl
before-none n [] (suc i) l h = absurd (omega arith)
before-none n (x ∷ xs) (suc i) l h = absurd (none-some (slice_get (x ∷ xs) i) (get_or (x ∷ xs) i x) h (slice_get-get_or (x ∷ xs) i x (omega arith)))

module _ (records : List Redo) (i : ℕ) (r : Redo) (joins : with_record r records ≡ insert records i r) (low : lsn_before 0 records i ≤ r.prev_group) (line : is_line 0 records ≡ true) where
  kept : ((d : Redo) → i < length records → r.lsn ≤ (get_or records i d).prev_group) → is_line 0 (with_record r records) ≡ true
  kept high = line-to 0 (with_record r records) (subst (IsLine 0) (sym joins) (line-insert 0 records i r (line-from 0 records line) low high))

  pub line-kept : (s : Redo) → Some s ≡ slice_get records i → r.lsn ≤ s.prev_group → is_line 0 (with_record r records) ≡ true
  line-kept s at high = kept (λ d l. subst (λ (t : Redo). r.lsn ≤ t.prev_group) (sym (get_or_from_slice_get records i s d (sym at))) high)

  pub line-kept_last : None ≡ slice_get records i → is_line 0 (with_record r records) ≡ true
  line-kept_last none = kept (λ d l. absurd (none-some (slice_get records i) (get_or records i d) none (slice_get-get_or records i d l)))
