-- What a log that is found shares with the records that were reported.
use Rattle.std.proofs.Common.{◌≡◌, ℕ, zero, suc, ◌^◌, ◌<◌, ◌≤◌, true, ◌&&◌, nat_lt, nat_eq, List, [], ◌∷◌, ◌++◌, length, take, drop, Some, None, option_map, if◌then◌else◌, refl, sym, ap, ◌∙◌, subst, inl, inr, arith, Result, Ok, Err, IfOk, MatchResult, take-append-drop}
use Rattle.std.proofs.lemmas.Bool.{and_parts, eq-eqb, eqb-true, lt-ltb, or_left}
use Rattle.volume_model.specs.Common.{IsIn, added, Redo, spelling, numbers_before, last_lsn, record_at, chain_from}
use Rattle.redo_record.specs.declared.record_set.RecordSet.{RecordSet}
use Rattle.redo_record.specs.Common.{IsInOrder, ComesAfter, packets_of, records_of}
use Rattle.redo_record.proofs.Before.{IsBefore}
use Rattle.redo_record.proofs.Places.{IsOrdered, in_order-from}
use Rattle.writer_core.specs.Logs.{log_of_set, is_growing}
use Rattle.writer_core.proofs.Growing.{both}
use Rattle.writer_core.proofs.Finding.{in-added, at_most_last}
use Rattle.writer_core.proofs.Joined.{growing-same, length-set, log_of-set, older-grows}
use Rattle.writer_core.proofs.Bounds.{packets-few}
use Rattle.recovery.specs.Chains.{is_chain_to}
use Rattle.recovery.proofs.Links.{IsBack, chain, chain-lower, chain_from-is}

-- ---- records one of each number

pub copy-grows : {E : Type 0} (P : E → Type 0) (r : Result RecordSet E) (set : RecordSet) → is_growing (log_of_set set) ≡ true → MatchResult r (λ copy. records_of copy ≡ records_of set) P → IfOk r (λ copy. is_growing (log_of_set copy) ≡ true)
copy-grows P (Ok copy) set g h = ap (λ (rs : List Redo). is_growing (added rs [])) h ∙ g
copy-grows P (Err e) set g h = tt

pub copy-same : {E : Type 0} (P : E → Type 0) (r : Result RecordSet E) (set : RecordSet) → is_growing (log_of_set set) ≡ true → MatchResult r (λ copy. records_of copy ≡ records_of set) P → IfOk r (λ copy. (n : ℕ) → record_at (log_of_set copy) n ≡ record_at (records_of set) n)
copy-same P (Ok copy) set g h = λ n. ap (λ (rs : List Redo). record_at (added rs []) n) h ∙ growing-same (records_of set) g n
copy-same P (Err e) set g h = tt

pub added-more : (records : List Redo) (r : Redo) (kept : List Redo) → added (records ++ r ∷ []) kept ≡ r ∷ added records kept
added-more [] r kept = refl
added-more (s ∷ records) r kept = added-more records r (s ∷ kept)

-- a record of a greater number than all others comes after them
lower-before : (r s : Redo) → s.lsn < r.lsn → numbers_before (spelling s) (spelling r) ≡ true
lower-before r s less = or_left (nat_lt s.lsn r.lsn) _ (lt-ltb s.lsn r.lsn less)

pub greater-after : (records : List Redo) (r : Redo) → is_growing (added records []) ≡ true → last_lsn (added records []) < r.lsn → ComesAfter records r
greater-after records r g above s i =
    let le : s.lsn ≤ last_lsn (added records []) = at_most_last (added records []) g s (in-added records [] s (inl i)) in
    lower-before r s (omega arith)

-- records whose numbers grow are in order
grown-ordered : (rs kept : List Redo) → is_growing (added rs kept) ≡ true → IsOrdered rs × ((s : Redo) → IsIn s rs → last_lsn kept < s.lsn)
unfolding IsBefore
grown-ordered [] kept g = (tt, λ s i. absurd i)
grown-ordered (r ∷ rs) kept g =
    let (order, later) = grown-ordered rs (r ∷ kept) g in
    let (above, rest) = both (last_lsn kept) r.lsn (is_growing kept) (older-grows rs (r ∷ kept) g) in
    (((λ s i. lower-before s r (later s i)), order), next above later)
  where
    next : last_lsn kept < r.lsn → ((s : Redo) → IsIn s rs → r.lsn < s.lsn) → (s : Redo) → IsIn s (r ∷ rs) → last_lsn kept < s.lsn
    next above later s (inl e) = subst (λ (z : Redo). last_lsn kept < z.lsn) (sym e) above
    next above later s (inr i) = (let more : r.lsn < s.lsn = later s i in omega arith)

pub grown-in_order : (rs : List Redo) → is_growing (added rs []) ≡ true → IsInOrder rs
grown-in_order rs g = in_order-from rs (grown-ordered rs [] g).0

-- ---- a chain with no others between

pub chain-is : (log : List Redo) (n : ℕ) → is_chain_to n log ≡ true → chain log n ≡ Some log
chain-is [] n h = ap (λ b. if b then Some [] else None) h
chain-is (r ∷ older) n h =
    let parts : (nat_eq r.lsn n ≡ true) × (is_chain_to r.prev_volume older ≡ true) = and_parts _ _ h in
    ap (λ b. if b then option_map (λ rest. r ∷ rest) (chain older r.prev_volume) else chain older n) parts.0 ∙ ap (option_map (λ rest. r ∷ rest)) (chain-is older r.prev_volume parts.1)

pub chain-last : (log : List Redo) (n : ℕ) → is_chain_to n log ≡ true → last_lsn log ≡ n
chain-last [] n h = sym (eqb-true n 0 h)
chain-last (r ∷ older) n h = eqb-true r.lsn n (and_parts (nat_eq r.lsn n) (is_chain_to r.prev_volume older) h).0

chain-past : (rs older : List Redo) → is_growing (added rs older) ≡ true → (n : ℕ) → n ≤ last_lsn older → chain (added rs older) n ≡ chain older n
chain-past [] older g n h = refl
chain-past (r ∷ rs) older g n h =
    let (below, rest) = both (last_lsn older) r.lsn (is_growing older) (older-grows rs (r ∷ older) g) in
    chain-past rs (r ∷ older) g n (omega arith) ∙ chain-lower r older n (omega arith)

pub added-append : (xs ys kept : List Redo) → added (xs ++ ys) kept ≡ added ys (added xs kept)
added-append [] ys kept = refl
added-append (x ∷ xs) ys kept = added-append xs ys (x ∷ kept)

-- the first records are the chain from their last number on
pub front-chain : (records : List Redo) (len n : ℕ) → is_growing (added records []) ≡ true → IsBack (added records []) → is_chain_to n (added (take len records) []) ≡ true → chain_from n (added records []) n ≡ Some (added (take len records) [])
front-chain records len n g back h =
    let front : List Redo = added (take len records) [] in
    let split : added records [] ≡ added (drop len records) front = ap (λ (rs : List Redo). added rs []) (sym (take-append-drop len records)) ∙ added-append (take len records) (drop len records) [] in
    let last : last_lsn front ≡ n = chain-last front n h in
    chain_from-is (added records []) g back n n (omega arith)
    ∙ ap (λ l. chain l n) split
    ∙ chain-past (drop len records) front (ap is_growing (sym split) ∙ g) n (omega (arith, last))
    ∙ chain-is front n h

pub front-grows : (records : List Redo) (len : ℕ) → is_growing (added records []) ≡ true → is_growing (added (take len records) []) ≡ true
front-grows records len g =
    older-grows (drop len records) (added (take len records) []) (ap is_growing (sym (added-append (take len records) (drop len records) []) ∙ ap (λ (rs : List Redo). added rs []) (take-append-drop len records)) ∙ g)

-- one record more in the chain
pub chain-more : (last n : ℕ) (r : Redo) (older log : List Redo) → log ≡ r ∷ older → r.prev_volume ≡ last → n ≡ r.lsn → is_chain_to last older ≡ true → is_chain_to n log ≡ true
chain-more last n r older log is prev at h =
    ap (is_chain_to n) is ∙ ap (λ b. b && is_chain_to r.prev_volume older) (eq-eqb r.lsn n (sym at)) ∙ ap (λ m. is_chain_to m older) prev ∙ h

-- the first records, as many as stand before the others
pub front-is : (done left records : List Redo) (len : ℕ) → done ++ left ≡ records → len ≡ length done → take len records ≡ done
front-is done left records len all many = ap (take len) (sym all) ∙ front done left len many
  where
    front : (xs ys : List Redo) (n : ℕ) → n ≡ length xs → take n (xs ++ ys) ≡ xs
    front [] ys n e = (let z : n ≡ 0 = omega (arith, e) in ap (λ k. take k ys) z ∙ none ys)
      where
        none : (ys : List Redo) → take 0 ys ≡ []
        none [] = refl
        none (y ∷ ys) = refl
    front (x ∷ xs) ys zero e = absurd (omega arith)
    front (x ∷ xs) ys (suc n) e = ap (λ (zs : List Redo). x ∷ zs) (front xs ys n (omega arith))

-- a set whose numbers grow has few records
pub set-few : (set : RecordSet) → is_growing (log_of_set set) ≡ true → length (records_of set) ≤ 2 ^ 62
set-few set grows =
    let few : length (packets_of set) ≤ 2 ^ 62 = packets-few (packets_of set) (ap is_growing (log_of-set set) ∙ grows) in
    omega (arith, length-set set)
