-- Parts of a list of records
use Rattle.std.proofs.Common.{◌≡◌, ℕ, zero, suc, ◌+◌, ◌-◌, ◌*◌, ◌≤◌, min, List, [], ◌∷◌, length, take, drop, map, Option, sym, ap, ◌∙◌, subst, arith}
use Rattle.std.proofs.lemmas.List.{take-take, drop-take, drop-drop, drop_min, take_min, length-take, length-drop, take-map, drop-map}
use Rattle.volume_model.specs.Common.{piece_records, Redo}
use Rattle.volume_model.proofs.Basics.{IsIn-take, IsIn-drop}
use Rattle.redo_record.specs.Groups.{IsKnownGroup}
use Rattle.redo_record.specs.Order.{IsInOrder}
use Rattle.redo_record.proofs.Merging.{ordered-drop}
use Rattle.redo_record.proofs.Places.{IsOrdered, ordered-from, in_order-from}
use Rattle.std.proofs.lemmas.Grind.{common_steps}

-- the records of a part of what shows records
pub part-shown : {A : Type 0} (shows : A → Redo) (xs : List A) (from len : ℕ) → map shows (take len (drop from xs)) ≡ take len (drop from (map shows xs))
part-shown shows xs from len = sym (take-map shows len (drop from xs)) ∙ ap (take len) (sym (drop-map shows from xs))

-- how long a part is
pub length-part : {A : Type 0} (xs : List A) (from len : ℕ) → from + len ≤ length xs → length (take len (drop from xs)) ≡ len
length-part xs from len within = simp (length-take, length-drop) (omega arith)

-- a part of a part
pub part-of_part : {A : Type 0} (xs : List A) (first all from len : ℕ) → first + all ≤ length xs → from + len ≤ length (take all (drop first xs)) → take len (drop (first + from) xs) ≡ take len (drop from (take all (drop first xs)))
part-of_part xs first all from len within inside =
    let inside' : from + len ≤ all = subst (λ n. from + len ≤ n) (length-part xs first all within) inside in
    let parts : all ≡ from + (all - from) = omega arith in
    let few : len ≤ all - from = omega arith in
    sym (
    ap (λ n. take len (drop from (take n (drop first xs)))) parts
    ∙ ap (take len) (drop-take from (all - from) (drop first xs))
    ∙ take-take len (all - from) (drop from (drop first xs)) few
    ∙ ap (take len) (drop-drop from first xs)
    )

-- the part of the records that a piece is
pub part-piece : (records : List Redo) (number from len : ℕ) → from ≡ min (number * 256) (length records) → len ≡ min (length records - from) 256 → take len (drop from records) ≡ piece_records records number
part-piece records number from len first count =
    let few : len ≡ min 256 (length (drop from records)) = simp length-drop (omega arith) in
    grind (arith, common_steps, take_min, drop_min)

ordered-take : (n : ℕ) (records : List Redo) → IsOrdered records → IsOrdered (take n records)
ordered-take zero records o = tt
ordered-take (suc n) [] o = tt
ordered-take (suc n) (r ∷ rest) o = ((λ s i. o.0 s (IsIn-take n rest s i)), ordered-take n rest o.1)

-- a part of records in order is in order
pub in_order-part : (records : List Redo) (from len : ℕ) → IsInOrder records → IsInOrder (take len (drop from records))
in_order-part records from len order = in_order-from (take len (drop from records)) (ordered-take len (drop from records) (ordered-drop from records (ordered-from records order)))

-- a part of records of a group is of the group
pub known_group-part : (known_group : Option ℕ) (records : List Redo) (from len : ℕ) → IsKnownGroup known_group records → IsKnownGroup known_group (take len (drop from records))
known_group-part known_group records from len kept group e s i = kept group e s (IsIn-drop from records s (IsIn-take len (drop from records) s i))
