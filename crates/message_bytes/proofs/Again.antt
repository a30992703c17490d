-- What was written is read again.
use Rattle.std.proofs.Common.{◌≡◌, ℕ, suc, ◌+◌, ◌^◌, ◌<◌, true, List, [], ◌∷◌, ◌++◌, length, get_or, drop, Ok, refl, sym, ap, ap₂, subst, ◌∙◌, append_assoc, arith}
use Rattle.std.specs.Int.{w32, to_be_bytes}
use Rattle.std.proofs.lemmas.Bool.{and_parts, le-ltb}
use Rattle.std.proofs.lemmas.List.{take_at, drop-drop, drop_at, append-nil, length-append, get_or_append_left, get_or_at}
use Rattle.volume_model.specs.Common.{Redo, spelling, numbers_before, Lineage, Contents}
use Rattle.volume_model.specs.Lineage.{Entry}
use Rattle.redo_record.specs.Common.{IsInOrder, spelled, decoded}
use Rattle.redo_record.proofs.Again.{length-spelled}
use Rattle.lineage.specs.Entries.{is_lineage}
use Rattle.message_bytes.specs.Contents.{redo_at, entry_at, entries_at, is_next, records_at, lineage_at, set_at, contents_at}
use Rattle.message_bytes.specs.Spelling.{entry_spelled, entries_spelled, lineage_spelled, records_spelled, set_spelled, contents_spelled, IsEntry, AreEntries, AreReadBack}
use Rattle.message_bytes.proofs.Fields.{wide32, number_again}
use Rattle.message_bytes.proofs.Next.{next-at}
use Rattle.std.proofs.lemmas.Grind.{common_steps}

pub three : (o a b c : List ℕ) → ((o ++ a) ++ b) ++ c ≡ o ++ (a ++ (b ++ c))
three o a b c = append_assoc (o ++ a) b c ∙ append_assoc o a (b ++ c)

length_at : (r : Redo) (rest : List ℕ) → get_or (spelled r ++ rest) 44 0 ≡ length r.bytes
unfolding spelled
length_at r rest = refl

pub redo_again : (r : Redo) (rest : List ℕ) → decoded (spelled r) ≡ Ok r → redo_at (spelled r ++ rest) ≡ Ok (r, rest)
unfolding redo_at
redo_again r rest reads = grind (arith, common_steps, length_at, length-spelled, le-ltb, length-append, take_at, drop_at)

pub entry_again : (e : Entry) (rest : List ℕ) → IsEntry e → entry_at (entry_spelled e ++ rest) ≡ Ok (e, rest)
unfolding entry_at
entry_again e rest fits = grind (arith, common_steps)

pub entries_again : (own : Lineage) (m : ℕ) (rest : List ℕ) → is_lineage own ≡ true → AreEntries own → entries_at (length own + m) [] (entries_spelled own ++ rest) ≡ entries_at m own rest
unfolding entries_at
entries_again [] m rest growing fits = ap (λ (k : ℕ). entries_at k [] rest) (omega arith)
entries_again (e ∷ older) m rest growing fits =
    let before : is_lineage older ≡ true = (and_parts _ _ growing).1 in
    grind (arith, common_steps, (entries_again older (suc m) (entry_spelled e ++ rest) before fits.1), (append_assoc (entries_spelled older) (entry_spelled e) rest), (entry_again e rest fits.0))

next_passes : (kept : List Redo) (r : Redo) (xs : List Redo) → IsInOrder (kept ++ r ∷ xs) → is_next kept r ≡ true
next_passes [] r xs order = refl
next_passes (s ∷ kept) r xs order =
    let n = length kept in
    let all = (s ∷ kept) ++ r ∷ xs in
    next-at (s ∷ kept) n r r refl
    ∙ subst (λ (x : Redo). numbers_before (spelling x) (spelling r) ≡ true) (get_or_append_left (s ∷ kept) (r ∷ xs) r n (omega arith))
    (subst (λ (x : Redo). numbers_before (spelling (get_or all n r)) (spelling x) ≡ true) (get_or_at (s ∷ kept) r xs r (suc n) refl)
    (order n (suc n) r (omega arith) (omega (arith, length-append (s ∷ kept) (r ∷ xs)))))

pub records_again : (xs kept : List Redo) (m : ℕ) (rest : List ℕ) → IsInOrder (kept ++ xs) → AreReadBack xs → records_at (length xs + m) kept (records_spelled xs ++ rest) ≡ records_at m (kept ++ xs) rest
unfolding records_at
records_again [] kept m rest order back = ap₂ (λ (k : ℕ) (t : List Redo). records_at k t rest) (omega arith) (sym (append-nil kept))
records_again (r ∷ xs) kept m rest order back =
    let k : length (r ∷ xs) + m ≡ suc (length xs + m) = omega arith in
    let more : (kept ++ r ∷ []) ++ xs ≡ kept ++ r ∷ xs = append_assoc kept (r ∷ []) xs in
    grind (arith, common_steps, (records_again xs (kept ++ r ∷ []) m rest (subst IsInOrder (sym more) order) back.1), (append_assoc (spelled r) (records_spelled xs) rest), (redo_again r (records_spelled xs ++ rest) back.0), (next_passes kept r xs order))

pub lineage_again : (own : Lineage) (rest : List ℕ) → length own < 2 ^ 32 → is_lineage own ≡ true → AreEntries own → lineage_at (lineage_spelled own ++ rest) ≡ Ok (own, rest)
unfolding lineage_at entries_at
lineage_again own rest few growing fits =
    ap lineage_at (append_assoc (to_be_bytes w32 (length own)) (entries_spelled own) rest)
    ∙ rw (number_again w32 (2 ^ 32) wide32 (length own) (entries_spelled own ++ rest) few) (ap (λ (k : ℕ). entries_at k [] (entries_spelled own ++ rest)) (omega arith) ∙ entries_again own 0 rest growing fits)

pub set_again : (records : List Redo) (rest : List ℕ) → length records < 2 ^ 32 → IsInOrder records → AreReadBack records → set_at (set_spelled records ++ rest) ≡ Ok (records, rest)
unfolding set_at records_at
set_again records rest few order back =
    ap set_at (append_assoc (to_be_bytes w32 (length records)) (records_spelled records) rest)
    ∙ rw (number_again w32 (2 ^ 32) wide32 (length records) (records_spelled records ++ rest) few) (ap (λ (k : ℕ). records_at k [] (records_spelled records ++ rest)) (omega arith) ∙ records_again records [] 0 rest order back)

pub contents_again : (c : Contents) (rest : List ℕ)
    → ((rest : List ℕ) → lineage_at (lineage_spelled c.lineage ++ rest) ≡ Ok (c.lineage, rest))
    → ((rest : List ℕ) → set_at (set_spelled c.records ++ rest) ≡ Ok (c.records, rest))
    → contents_at (contents_spelled c ++ rest) ≡ Ok (c, rest)
unfolding contents_at
contents_again c rest lineage_back set_back = grind (arith, common_steps)

-- what a CopyReport's fields are written by, one after the other
pub copied : (o e s p t : List ℕ) (g f : ℕ) → (((((o ++ g ∷ []) ++ e) ++ f ∷ []) ++ s) ++ p) ++ t ≡ o ++ ((g ∷ e) ++ ((f ∷ s) ++ (p ++ t)))
copied o e s p t g f = grind (arith, common_steps)

-- what follows a place stays as it was, further on too
pub drop-further : (n m : ℕ) (a b c : List ℕ) → drop (n + m) a ≡ drop (n + m) b → drop n b ≡ drop n c → drop (n + m) a ≡ drop (n + m) c
drop-further n m a b c first same = first ∙ sym (drop-drop m n b) ∙ ap (λ (t : List ℕ). drop m t) same ∙ drop-drop m n c
