-- Bytes that move from a snapshot into a buffer.
use Rattle.std.proofs.Common.{◌≡◌, ℕ, ◌+◌, ◌≤◌, List, [], ◌∷◌, ◌++◌, length, take, drop, sym, ap, ap₂, ◌∙◌, append_assoc}
use Rattle.std.proofs.Math.Seq.{take-append-add, drop-append_seam}
use Rattle.std.proofs.lemmas.List.{drop_all, drop-drop, take-append-drop}
use Rattle.volume_model.specs.Common.{Redo}
use Rattle.message_bytes.specs.Spelling.{records_spelled}
use Rattle.message_bytes.proofs.Found.{records_spelled-append}

-- what stands before the records of a snapshot, and the records
pub head-then : (v p k l m r : List ℕ) (f : ℕ) → ((1 ∷ 129 ∷ []) ++ (v ++ (p ++ (f ∷ (k ++ (l ++ m)))))) ++ r ≡ (1 ∷ 129 ∷ []) ++ (v ++ (p ++ (f ∷ (k ++ (l ++ (m ++ r))))))
head-then v p k l m r f = simp append_assoc

-- all bytes were moved
pub empty_left : (head : List ℕ) (records : List Redo) (taken next : ℕ) → length head ≤ taken → length records ≤ next → drop taken head ++ records_spelled (drop next records) ≡ []
empty_left head records taken next a b = ap₂ (λ (x : List ℕ) (y : List Redo). x ++ records_spelled y) (drop_all taken head a) (drop_all next records b)

-- whole records are moved
pub records-moved : (records : List Redo) (next n count : ℕ) (out : List ℕ) → take count out ≡ records_spelled (take n (drop next records))
    → records_spelled (drop next records) ≡ take count out ++ records_spelled (drop (next + n) records)
records-moved records next n count out is =
    let left = drop next records in
    ap records_spelled (sym (take-append-drop n left)) ∙ records_spelled-append (take n left) (drop n left)
    ∙ ap (λ (t : List ℕ). t ++ records_spelled (drop n left)) (sym is)
    ∙ ap (λ (xs : List Redo). take count out ++ records_spelled xs) (drop-drop n next records)

-- bytes are moved, and more behind them
pub both-moved : (old mid new out front rest : List ℕ) (m k : ℕ) → old ≡ take m out ++ mid → mid ≡ take k rest ++ new → front ≡ take m out → length front ≡ m → old ≡ take (m + k) (front ++ rest) ++ new
both-moved old mid new out front rest m k first second is long =
    let parts : take (m + k) (front ++ rest) ≡ front ++ take k rest = ap (λ (n : ℕ). take (n + k) (front ++ rest)) (sym long) ∙ take-append-add front rest k in
    first ∙ ap (λ (t : List ℕ). t ++ mid) (sym is) ∙ ap (λ (t : List ℕ). front ++ t) second ∙ sym (append_assoc front (take k rest) new)
    ∙ ap (λ (t : List ℕ). t ++ new) (sym parts)

-- the bytes behind them stay as they were
pub both-back : (before out front rest last : List ℕ) (m k : ℕ) → drop m out ≡ drop m before → rest ≡ drop m out → drop k last ≡ drop k rest → length front ≡ m → drop (m + k) (front ++ last) ≡ drop (m + k) before
both-back before out front rest last m k first is same long =
    sym (drop-drop k m (front ++ last)) ∙ ap (λ (t : List ℕ). drop k t) (ap (λ (n : ℕ). drop n (front ++ last)) (sym long) ∙ drop-append_seam front last)
    ∙ same ∙ ap (λ (t : List ℕ). drop k t) (is ∙ first) ∙ drop-drop k m before
