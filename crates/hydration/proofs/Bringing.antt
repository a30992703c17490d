-- What complete copies bring.
use Rattle.std.proofs.Common.{◌≡◌, ℕ, ◌+◌, ◌-◌, ◌<◌, Bool, true, false, ◌&&◌, ◌||◌, if◌then◌else◌, List, [], ◌∷◌, ◌++◌, length, get_or, take, drop, map, nat_eq, refl, sym, ap, ◌∙◌, arith, Some, Result, Ok, Err, IfOk}
use Rattle.std.proofs.lemmas.Bool.Decides.{nat_tests}
use Rattle.std.proofs.lemmas.List.{drop_more, map-append}
use Rattle.std.proofs.lemmas.List.Sorted.{IsPermutation-map}
use Rattle.std.specs.FinSet.{FinSet, contains, insert}
use Rattle.std.specs.List.Sorted.{IsPermutation}
use Rattle.std.specs.Ordering.{nat_cmp}
use Rattle.volume_model.specs.Lineage as model
use Rattle.volume_model.specs.Common.{Formula, sat, last_epoch, newer, newest, newest_with, finished, united_copy, KeptPiece, Copy, is_complete, united, brought, brought_by, contents_in, copied_by, Redo, with_records}
use Rattle.volume_model.specs.Lineage.{found_in}
use Rattle.volume_model.proofs.PieceLaws.{pieces_unite}
use Rattle.volume_model.proofs.Sets.{contains-put}
use Rattle.redo_record.specs.declared.record_set.RecordSet.{RecordSet}
use Rattle.redo_record.specs.Common.{records_of, all_records}
use Rattle.redo_record.proofs.Rows.{all_records-permuted}
use Rattle.hydration.specs.declared.kept_copy.KeptCopy.{KeptCopy}
use Rattle.hydration.specs.declared.kept.Kept.{Kept}
use Rattle.hydration.specs.Kept.{all_kept, kept_of, sets_kept}
use Rattle.hydration.specs.KeptCopies.{all_kept_copies, kept_copy_of, contents_kept}
use Rattle.hydration.specs.Pieces.{seen_pieces}
use Rattle.std.proofs.lemmas.Grind.{common_steps}

united-all : (kept : List KeptPiece) → all_records (map (λ (piece : KeptPiece). piece.contents.records) kept) ≡ united (map (λ (piece : KeptPiece). piece.contents) kept)
united-all [] = refl
united-all (piece ∷ rest) = ap (with_records piece.contents.records) (united-all rest)

-- the joined sets, where they could be joined, in whatever order
pub in-any-order : {E : Type 0} (parts sorted : List RecordSet) (r : Result RecordSet E) → IsPermutation parts sorted → IfOk r (λ set. records_of set ≡ all_records (map records_of sorted)) → IfOk r (λ set. records_of set ≡ all_records (map records_of parts))
in-any-order parts sorted (Ok set) same joined = joined ∙ all_records-permuted (map records_of parts) (map records_of sorted) (IsPermutation-map records_of parts sorted same)
in-any-order parts sorted (Err e) same joined = tt

-- the joined sets of kept pieces
pub joined-kept : {E : Type 0} (kept : List Kept) (parts : List RecordSet) (r : Result RecordSet E) → map records_of parts ≡ sets_kept kept
    → IfOk r (λ set. records_of set ≡ all_records (map records_of parts)) → IfOk r (λ set. records_of set ≡ united (contents_kept kept))
joined-kept kept parts (Ok set) h joined = joined ∙ ap all_records h ∙ united-all (all_kept kept)
joined-kept kept parts (Err e) h joined = tt

-- the sets of kept pieces and of one behind them
pub sets-behind : (kept : List Kept) (last : Kept) (parts now : List RecordSet) (copy : RecordSet) → now ≡ parts ++ copy ∷ [] → records_of copy ≡ records_of last.contents.records → map records_of parts ≡ sets_kept kept
    → map records_of now ≡ sets_kept (kept ++ last ∷ [])
sets-behind kept last parts now copy more same h = grind (arith, common_steps)

-- what is held once the last piece is kept too
pub behind-kept : {E : Type 0} (kept : List Kept) (last : Kept) (r : Result RecordSet E) → IfOk r (λ set. records_of set ≡ united (contents_kept (kept ++ last ∷ [])))
    → IfOk r (λ set. records_of set ≡ united (map (λ (piece : KeptPiece). piece.contents) (all_kept kept ++ kept_of last ∷ [])))
behind-kept kept last (Ok set) h = h ∙ ap (λ (ps : List KeptPiece). united (map (λ (piece : KeptPiece). piece.contents) ps)) (map-append kept_of kept (last ∷ []))
behind-kept kept last (Err e) h = tt

newest_with-append : (last : model.Lineage) (xs ys : List model.Contents) → newest_with last (xs ++ ys) ≡ newest_with (newest_with last ys) xs
newest_with-append last [] ys = refl
newest_with-append last (x ∷ xs) ys = ap (newer x.lineage) (newest_with-append last xs ys)

-- what a copy brings, by the test
brought-by : (complete : Bool) (copy : Copy) → is_complete copy.pieces ≡ complete → brought_by copy ≡ (if complete then contents_in copy.pieces else [])
brought-by complete copy e = ap (λ b. if b then contents_in copy.pieces else []) e

-- one copy more in front
pub newest-complete : (copy : Copy) (rest : List Copy) (last behind now : model.Lineage) → is_complete copy.pieces ≡ true → now ≡ newest_with behind (contents_in copy.pieces) → behind ≡ newest_with last (brought rest) → now ≡ newest_with last (brought (copy ∷ rest))
newest-complete copy rest last behind now complete is h = grind (arith, common_steps, newest_with-append, brought-by)

-- the first copy, before the rest
pub copies-first : (copies : List KeptCopy) (c : KeptCopy) → 0 < length copies → c ≡ get_or copies 0 c → all_kept_copies copies ≡ kept_copy_of c ∷ all_kept_copies (take (length copies - 1) (drop 1 copies))
copies-first [] c within is = absurd (omega arith)
copies-first (x ∷ rest) c within is = grind (arith, common_steps)

-- the newest lineage, with a first copy that is complete
pub newest-front : (copies : List KeptCopy) (c : KeptCopy) (last behind now : model.Lineage) → 0 < length copies → c ≡ get_or copies 0 c → is_complete (seen_pieces c.pieces) ≡ true
    → now ≡ newest_with behind (contents_kept c.pieces.kept.items) → behind ≡ newest_with last (brought (all_kept_copies (take (length copies - 1) (drop 1 copies)))) → now ≡ newest_with last (brought (all_kept_copies copies))
newest-front copies c last behind now within is complete newest h =
    newest-complete (kept_copy_of c) (all_kept_copies (take (length copies - 1) (drop 1 copies))) last behind now complete newest h
    ∙ sym (ap (λ l. newest_with last (brought l)) (copies-first copies c within is))

-- the copy at hand, before the rest
opened : (copies : List KeptCopy) (i : ℕ) (c : KeptCopy) → i < length copies → c ≡ get_or copies i c → all_kept_copies (drop i copies) ≡ kept_copy_of c ∷ all_kept_copies (drop (i + 1) copies)
opened copies i c within is = ap all_kept_copies (drop_more copies i c within) ∙ ap (λ (x : KeptCopy). kept_copy_of x ∷ all_kept_copies (drop (i + 1) copies)) (sym is)

joins : (x sender : ℕ) (a rest : Bool) → ((nat_eq x sender || a) || rest) ≡ (a || ((nat_eq sender x && true) || rest))
joins x sender a rest = grind (arith, nat_tests)

-- a sender more
pub copied-more : (copies : List KeptCopy) (i : ℕ) (c : KeptCopy) (s : FinSet nat_cmp) (whole : ℕ → Bool) → i < length copies → c ≡ get_or copies i c → is_complete (kept_copy_of c).pieces ≡ true
    → ((x : ℕ) → (contains s x || copied_by (all_kept_copies (drop i copies)) x) ≡ whole x)
    → (x : ℕ) → (contains (insert s c.from) x || copied_by (all_kept_copies (drop (i + 1) copies)) x) ≡ whole x
copied-more copies i c s whole within is complete h x = grind (arith, common_steps, contains-put, joins, nat_eq, opened)

-- a copy that isn't complete
pub copied-same : (copies : List KeptCopy) (i : ℕ) (c : KeptCopy) (s : FinSet nat_cmp) (whole : ℕ → Bool) → i < length copies → c ≡ get_or copies i c → is_complete (kept_copy_of c).pieces ≡ false
    → ((x : ℕ) → (contains s x || copied_by (all_kept_copies (drop i copies)) x) ≡ whole x)
    → (x : ℕ) → (contains s x || copied_by (all_kept_copies (drop (i + 1) copies)) x) ≡ whole x
copied-same copies i c s whole within is broken h x = grind (arith, common_steps)

-- what a node becomes, where the copies of a read set are complete
pub finished-complete : (read : Formula) (copies : List Copy) (lineage : model.Lineage) (records : List Redo) (volume : ℕ) → sat read (copied_by copies) ≡ true → lineage ≡ newest (brought copies)
    → records ≡ found_in lineage (map (united_copy lineage) copies) → volume ≡ last_epoch lineage → finished read copies ≡ Some (record { volume = volume; contents = record { lineage = lineage; records = records } })
finished-complete read copies lineage records volume enough newest_is found last =
    let n = newest (brought copies) in
    let all : records ≡ found_in lineage (brought copies) = found ∙ sym (pieces_unite.copies lineage copies) in
    grind (arith, common_steps)
